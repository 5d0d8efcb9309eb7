-- What it returns follows by the library's rules alone.
use Rattle.std.proofs.Common.{rules}
use Rattle.natmit.proofs.machine.NatMitMachine.ordered.Goals as goal

pub returns : goal.returns
returns c = search rules
