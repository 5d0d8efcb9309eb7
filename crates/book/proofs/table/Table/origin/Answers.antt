use Rattle.std.proofs.Common.{sym}
use Rattle.book.proofs.table.Table.origin.Goals as goal

pub returns : goal.returns
returns g c = (c.entry.result.now, c.entry.ensures, sym c.origin.ensures)
