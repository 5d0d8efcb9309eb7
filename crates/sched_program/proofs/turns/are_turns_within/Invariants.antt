use Rattle.std.proofs.Common.{ℕ, ◌<◌, [], All, IfSome, get_or}
use Rattle.sched_program.specs.Program.{IsTurnWithin}
use Rattle.sched_program.proofs.turns.are_turns_within.Given as goal

-- the turns of the threads so far are within the limits
abbrev pub invariant-loop-thread : goal.invariant-loop-thread
invariant-loop-thread l = (t : ℕ) → t < l.thread
    → All (λ turn. IfSome turn (IsTurnWithin l.threads t)) (get_or l.turns t [])
