-- What it returns follows by the library's rules alone.
use Rattle.std.proofs.Common.{rules}
use Rattle.natmit.proofs.memory.is_plain.Goals as goal

pub returns-then-not-word-2 : goal.returns-then-not-word-2
returns-then-not-word-2 c = search rules

pub returns-else-not-word-2 : goal.returns-else-not-word-2
returns-else-not-word-2 c = search rules
