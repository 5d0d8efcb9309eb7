-- What was found, or another value where nothing was.
use Rattle.std.proofs.Common.{Option, Some, None, IfSome, IfNone, unwrap_or}
pub use Rattle.lin.proofs.Lists.{IsSome-value as some_value}

pub found_or : {X : Type 0} (P : X → Type 0) (found : Option X) (other : X) → IfSome found P → IfNone found (P other)
    → P (unwrap_or found other)
found_or P (Some x) other some none = some
found_or P None other some none = none
