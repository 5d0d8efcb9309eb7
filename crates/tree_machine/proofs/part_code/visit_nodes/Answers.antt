use Rattle.std.proofs.Common.{arith}
use Rattle.tree_machine.proofs.VisitedParts.{left_next, next_named}
use Rattle.tree_machine.proofs.part_code.visit_nodes.Goals as goal

pub visit_node-requires-clause-named : goal.visit_node-requires-clause-named
visit_node-requires-clause-named g c =
    next_named c.loop-index.invariant c.requires.nodes c.requires.records c.requires.in_range.1.nodes

pub loop-index-preserved : goal.loop-index-preserved
loop-index-preserved g c =
    left_next c.loop-index.invariant (omega (arith, c.node_count-index-end.ensures, c.loop-index-test.true))
    c.in_ok-visit_node.ensures
