use Rattle.std.proofs.Common.{◌≡◌}
use Rattle.lin.specs.OpSet.{operations_in}
use Rattle.lin.proofs.Timelines.{counted_before}
use Rattle.lin.proofs.timeline.counted.Given as goal

abbrev pub invariant-loop-thread : goal.invariant-loop-thread
invariant-loop-thread l = operations_in l.set ≡ counted_before l.count-items l.thread
