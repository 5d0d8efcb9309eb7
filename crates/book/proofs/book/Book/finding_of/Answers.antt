-- The row of an entry has its finding.
use Rattle.std.proofs.Common.{Some, ap, refl}
use Rattle.book.proofs.book.Book.finding_of.Goals as goal

pub returns-in-Some : goal.returns-in-Some
returns-in-Some g c = rw (← c.self.view_is, ← c.in-Some.ensures) (ap Some c.finding.ensures)

pub returns-in-None : goal.returns-in-None
returns-in-None g c = rw (← c.self.view_is, ← c.in-None.ensures) refl
