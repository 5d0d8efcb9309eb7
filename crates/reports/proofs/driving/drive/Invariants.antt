use Rattle.book.specs.Books.{machine_in}
use Rattle.reports.specs.Driving.{IsKept, IsLedgerOf}
use Rattle.reports.specs.Reading.{StandsAt}
use Rattle.reports.proofs.driving.drive.Given as goal

abbrev pub invariant-layers : goal.invariant-layers
invariant-layers g l = record {
  kept : IsKept l.fn.book l.book;
  ledger : IsLedgerOf l.book l.share;
  stands : StandsAt (machine_in g.M.Machine.rules l.fn.book).steps l.book.entries l.depth;
}
