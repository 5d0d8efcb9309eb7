-- What it returns follows by the library's rules alone.
use Rattle.std.proofs.Common.{rules}
use Rattle.natmit.proofs.memory.NatMitMem.copy_into.Goals as goal

pub returns : goal.returns
returns c = search rules
