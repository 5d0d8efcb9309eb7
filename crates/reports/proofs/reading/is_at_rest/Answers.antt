use Rattle.std.proofs.Common.{◌≡◌, ◌∙◌, ◌+◌, sym, arith}
use Rattle.std.proofs.lemmas.Bool.{false≢true}
use Rattle.book.specs.Books.{machine_in}
use Rattle.reports.proofs.Counting.{shallow_counted}
use Rattle.reports.proofs.reading.is_at_rest.Goals as goal

pub returns-in-Names : goal.returns-in-Names
returns-in-Names g c =
    let next : c.args.steps ≡ c.in-Some.before + 1 = omega (arith, c.in-Some.ensures) in
    let shallow =
    shallow_counted (machine_in g.M.Machine.rules c.args.book.now).steps c.args.book.now.entries c.in-Some.before
    c.count_to.result c.len.result c.count_to.ensures.value c.len.ensures in (
      (λ h. (sym c.merge.ensures ∙ c.in-Names.is, c.in-Some.before, next, shallow.0 h)),
      (λ rest. shallow.1 (λ i e at. omega (arith, rest.3 i e at, rest.2, next))),
    )

pub returns-in-Exact : goal.returns-in-Exact
returns-in-Exact g c = (
  (λ h. absurd (false≢true h)),
  (λ rest. cc (rest.0, c.merge.ensures, c.in-Exact.is)),
)
