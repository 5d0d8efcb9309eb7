use Rattle.std.proofs.Common.{◌≡◌, length}
use Rattle.crew.proofs.worker.shares_of.Given as goal

abbrev pub invariant-loop-worker : goal.invariant-loop-worker
invariant-loop-worker l = length l.shares.items ≡ l.worker-index
