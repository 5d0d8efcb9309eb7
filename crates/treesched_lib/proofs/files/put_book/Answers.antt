-- The text goes out whole, or the output says that it did not.
use Rattle.std.proofs.Common.{rules}
use Rattle.treesched_lib.proofs.files.put_book.Goals as goal

pub returns-in-Ok : goal.returns-in-Ok
returns-in-Ok g c = search rules
