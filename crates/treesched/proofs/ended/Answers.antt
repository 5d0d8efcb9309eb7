-- Running out of memory has its own status.
use Rattle.std.proofs.Common.{refl}
use Rattle.treesched.proofs.ended.Goals as goal

pub returns-in-Err : goal.returns-in-Err
returns-in-Err g c = rw c.in-Err.is (refl, c.tell.ensures, refl)
