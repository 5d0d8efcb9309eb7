use Rattle.std.proofs.Common.{◌≡◌, length}
use Rattle.tree_machine.proofs.state_reading.make_count.Given as goal

-- one thread for each pass is there
abbrev pub invariant-loop-i : goal.invariant-loop-i
invariant-loop-i g l = length l.threads.items ≡ l._i
