-- What it returns follows by the library's rules alone.
use Rattle.std.proofs.Common.{rules}
use Rattle.ellen.proofs.memory.is_word.Goals as goal

pub returns-in_default : goal.returns-in_default
returns-in_default c = search rules

pub returns-in-Mark-Mark : goal.returns-in-Mark-Mark
returns-in-Mark-Mark c = search rules

pub returns-in_default-2 : goal.returns-in_default-2
returns-in_default-2 c = search rules

pub returns-in_default-3 : goal.returns-in_default-3
returns-in_default-3 c = search rules

pub returns-in_default-4 : goal.returns-in_default-4
returns-in_default-4 c = search rules
