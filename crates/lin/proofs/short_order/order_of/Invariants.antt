use Rattle.std.proofs.Common.{◌≡◌, take}
use Rattle.lin.proofs.short_order.order_of.Given as goal

abbrev pub invariant-loop-name : goal.invariant-loop-name
invariant-loop-name l = l.order ≡ take l.name-index l.names
