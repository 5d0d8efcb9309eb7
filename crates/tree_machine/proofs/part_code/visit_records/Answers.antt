use Rattle.std.proofs.Common.{arith}
use Rattle.tree_machine.proofs.VisitedParts.{left_next, next_named}
use Rattle.tree_machine.proofs.part_code.visit_records.Goals as goal

pub visit_record-requires : goal.visit_record-requires
visit_record-requires g c =
    next_named c.loop-index.invariant c.requires.nodes c.requires.records c.requires.in_range.1.records

pub loop-index-preserved : goal.loop-index-preserved
loop-index-preserved g c =
    left_next c.loop-index.invariant (omega (arith, c.record_count-index-end.ensures, c.loop-index-test.true))
    c.in_ok-visit_record.ensures
