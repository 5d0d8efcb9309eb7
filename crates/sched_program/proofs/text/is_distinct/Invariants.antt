use Rattle.std.proofs.Common.{◌≢◌, ℕ, ◌<◌, get_or}
use Rattle.sched_program.proofs.text.is_distinct.Given as goal

abbrev pub invariant-loop-i : goal.invariant-loop-i
invariant-loop-i l = (b a : ℕ) → b < l.i → a < b → get_or l.keys a 0 ≢ get_or l.keys b 0
