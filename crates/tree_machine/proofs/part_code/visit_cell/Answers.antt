use Rattle.std.proofs.Common.{arith}
use Rattle.tree_machine.proofs.VisitedParts.{part_within}
use Rattle.tree_machine.proofs.part_code.visit_cell.Goals as goal

pub visit_node-requires-clause-named : goal.visit_node-requires-clause-named
visit_node-requires-clause-named g c =
    part_within (g.P.Parts.parts c.args.parts.now).nodes c.args.cell (omega arith) (omega arith)
    c.requires.in_range.1.nodes

pub visit_record-requires : goal.visit_record-requires
visit_record-requires g c =
    part_within (g.P.Parts.parts c.args.parts.now).records _ (omega arith) (omega arith)
    c.requires.in_range.1.records
