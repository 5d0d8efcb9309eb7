use Rattle.std.proofs.Common.{sym, ◌∙◌, leb-false, leb-true}
use Rattle.book.proofs.Cursors.{first_within}
use Rattle.book.proofs.Closed.{worked_out}
use Rattle.book.proofs.InBook.{left_to, none_left_to}
use Rattle.book.proofs.book.Book.is_left_to.Goals as goal

pub steps_to-requires-after_bounds : goal.steps_to-requires-after_bounds
steps_to-requires-after_bounds g c κs within =
    rw (← c.self.view_is) (first_within _ _ _ (sym c.first_left.ensures ∙ c.in-Some.is))

pub returns-in-None-clause-none : goal.returns-in-None-clause-none
returns-in-None-clause-none g c =
    rw (← c.self.view_is)
    (λ _ i e at _. worked_out _ (sym c.first_left.ensures ∙ c.in-None.is) i e at)

pub returns-in-Some-clause-left : goal.returns-in-Some-clause-left
returns-in-Some-clause-left g c =
    rw (← c.self.view_is)
    (λ h. left_to c.self.invariant.0 _ _ _ (sym c.first_left.ensures ∙ c.in-Some.is)
    (rw (← c.self.view_is) at c.steps_to.ensures) (leb-true _ _ h))

pub returns-in-Some-clause-none : goal.returns-in-Some-clause-none
returns-in-Some-clause-none g c =
    rw (← c.self.view_is)
    (λ h. none_left_to c.self.invariant.0 _ _ _ (sym c.first_left.ensures ∙ c.in-Some.is)
    (rw (← c.self.view_is) at c.steps_to.ensures) (leb-false _ _ h))
