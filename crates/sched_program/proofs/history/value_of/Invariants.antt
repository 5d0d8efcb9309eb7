use Rattle.std.proofs.Common.{◌≡◌, drop}
use Rattle.sched_program.specs.Name.{value_at}
use Rattle.sched_program.proofs.history.value_of.Given as goal

-- the name is no earlier one
abbrev pub invariant-loop-other : goal.invariant-loop-other
invariant-loop-other g l = value_at (drop l.other-index l.entries) l.name ≡ value_at l.fn.entries l.name
