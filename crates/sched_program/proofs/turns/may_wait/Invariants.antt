use Rattle.std.proofs.Common.{ℕ, ◌<◌, Option, IfSome, get_or}
use Rattle.sched_program.specs.declared.operation.Turn.{Turn}
use Rattle.sched_program.specs.Program.{IsTurnWithin}
use Rattle.sched_program.proofs.turns.may_wait.Given as goal

-- the turns so far are within the limits
abbrev pub invariant-loop-turn : goal.invariant-loop-turn
invariant-loop-turn l = (k : ℕ) (d : Option Turn) → k < l.turn-index
    → IfSome (get_or l.turns k d) (IsTurnWithin l.threads l.thread)
