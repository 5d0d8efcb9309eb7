-- Each entry is open, taken or expanded.
use Rattle.book.proofs.EntryLemmas.{count_marks}
use Rattle.book.proofs.book.Book.totals.Goals as goal

pub returns-clause-marks : goal.returns-clause-marks
returns-clause-marks g c = rw c.totals.ensures (count_marks c.self.inside.table.entries)
