use Rattle.std.proofs.Common.{◌-◌}
use Rattle.tree_machine.proofs.search_order.+is_ordered.Given as goal

abbrev pub decreases-is_ordered : goal.decreases-is_ordered
decreases-is_ordered g l = l.high - l.low
