use Rattle.std.proofs.Common.{length}
use Rattle.replay.proofs.Text.Orders.{HasOrder}
use Rattle.replay.proofs.file.reading.order_of.Given as goal

abbrev pub invariant-loop-tail : goal.invariant-loop-tail
invariant-loop-tail l = HasOrder l.fn.text l.order l.rest

abbrev pub decreases-loop-tail : goal.decreases-loop-tail
decreases-loop-tail l = length l.rest
