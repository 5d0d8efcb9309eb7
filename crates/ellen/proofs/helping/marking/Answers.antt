-- The place is the definition's, for each of the two machines.
use Rattle.std.proofs.Common.{rules}
use Rattle.ellen.proofs.helping.marking.Goals as goal

pub returns-then-machine : goal.returns-then-machine
returns-then-machine c = search rules

pub returns-else-machine : goal.returns-else-machine
returns-else-machine c = search rules
