use Rattle.std.proofs.Common.{◌≡◌, true, take}
use Rattle.sched_program.specs.declared.operation.OpId.{OpId}
use Rattle.sched_program.specs.History.{EndedBefore}
use Rattle.lin.specs.Completion.{listed_in}
use Rattle.lin.proofs.order.ended_before_any.Given as goal

abbrev pub invariant-loop-other : goal.invariant-loop-other
invariant-loop-other l =
    (b : OpId) → listed_in (take l.other-index l.listed) b ≡ true → EndedBefore l.history l.name b → ⊥
