-- The operation replies as it did, or is pending.
use Rattle.std.proofs.Common.{rules}
use Rattle.lin.proofs.order.keys_after_next.Goals as goal

pub returns-in_default : goal.returns-in_default
returns-in_default c = search rules
