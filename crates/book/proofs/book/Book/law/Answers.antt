use Rattle.book.proofs.Agreeing.{book_as, finds_as, reached_as}
use Rattle.book.proofs.Coverage.{stands_along}
use Rattle.book.proofs.book.Book.law.Goals as goal

-- what is known by labels is so by what counts as one
pub returns-clause-law : goal.returns-clause-law
returns-clause-law g c =
    let book = c.self.invariant.0 in
    rw (← c.self.view_is) (book_as _ book.machine _ _ book.counts _ _ book.law)

pub returns-clause-test : goal.returns-clause-test
returns-clause-test g c =
    let book = c.self.invariant.0 in
    rw (← c.self.view_is) (_, book.merges, book.counts)

pub returns-clause-findings : goal.returns-clause-findings
returns-clause-findings g c =
    let book = c.self.invariant.0 in
    rw (← c.self.view_is) (finds_as _ book.machine _ _ book.counts _ book.findings)

pub returns-clause-reaches : goal.returns-clause-reaches
returns-clause-reaches g c =
    let book = c.self.invariant.0 in
    rw (← c.self.view_is) (reached_as _ book.machine _ _ book.counts _ book.law.law.fit
    (stands_along _ _ _ book.machine book.merges _ book.law.law))
