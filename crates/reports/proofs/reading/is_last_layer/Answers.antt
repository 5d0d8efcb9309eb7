use Rattle.book.specs.Books.{machine_in}
use Rattle.reports.proofs.Counting.{shallow_counted}
use Rattle.reports.proofs.reading.is_last_layer.Goals as goal

pub returns-then-not-is_left_below : goal.returns-then-not-is_left_below
returns-then-not-is_left_below g c =
    let shallow =
    shallow_counted (machine_in g.M.Machine.rules c.args.book.now).steps c.args.book.now.entries c.args.steps
    c.count_to.result c.len.result c.count_to.ensures.value c.len.ensures in (
      (λ h. (c.is_left_below.ensures.none c.if-not-is_left_below.true, shallow.0 h)),
      (λ last. shallow.1 last.1),
    )
