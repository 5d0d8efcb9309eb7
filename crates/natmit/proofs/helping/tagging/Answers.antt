-- What it returns follows by the library's rules alone.
use Rattle.std.proofs.Common.{rules}
use Rattle.natmit.proofs.helping.tagging.Goals as goal

pub returns-then-machine : goal.returns-then-machine
returns-then-machine c = search rules

pub returns-else-machine : goal.returns-else-machine
returns-else-machine c = search rules
