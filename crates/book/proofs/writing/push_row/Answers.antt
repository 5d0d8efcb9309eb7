use Rattle.std.proofs.Common.{rules}
use Rattle.book.proofs.writing.push_row.Goals as goal

pub returns : goal.returns
returns c = search rules
