-- The first table holds the start alone, under its label.
use Rattle.book.proofs.book.first_table.Goals as goal

pub returns : goal.returns
returns g c = (
  c.in_ok-state.state,
  c.in_ok-finding.finding,
  c.in_ok-state.ensures.start,
  rw c.of.ensures at c.in_ok-new.ensures.entries,
  rw c.in_ok-label.ensures at c.in_ok-new.ensures.labels,
  c.in_ok-state.ensures.fits,
  c.in_ok-finding.ensures,
)
