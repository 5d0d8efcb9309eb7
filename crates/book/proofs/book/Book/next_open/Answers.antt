use Rattle.std.proofs.Common.{sym, ◌∙◌}
use Rattle.book.proofs.Cursors.{first_within}
use Rattle.book.proofs.Marks.{expanded_from, open_passes}
use Rattle.book.proofs.Next.{next_from, no_next_later, none_passes}
use Rattle.book.proofs.book.Book.next_open.Goals as goal

pub steps_to-requires-after_bounds : goal.steps_to-requires-after_bounds
steps_to-requires-after_bounds g c κs within =
    rw (← c.self.view_is) (first_within _ _ _ (sym c.first_open.ensures.first ∙ c.in_ok-open.was))

pub steps_to-requires-2-after_bounds : goal.steps_to-requires-2-after_bounds
steps_to-requires-2-after_bounds g c κs within =
    rw (← c.self.view_is) (first_within _ _ _ (sym c.first_left.ensures ∙ c.in_ok-first.was))

pub returns-in_err-first-clause-none : goal.returns-in_err-first-clause-none
returns-in_err-first-clause-none g c =
    rw (c.from_residual.ensures, ← c.self.view_is) (λ i e next.
    let done = none_passes _ _ (sym c.first_left.ensures ∙ c.in_err-first.was) i e next.entry in
    cc (next.is_open, expanded_from e.mark done))

pub returns-in_err-open-clause-none : goal.returns-in_err-open-clause-none
returns-in_err-open-clause-none g c =
    rw (c.from_residual-in_err-open.ensures, ← c.self.view_is) (λ i e next.
    let closed = none_passes _ _ (sym c.first_open.ensures.first ∙ c.in_err-open.was) i e next.entry in
    cc (open_passes e.mark next.is_open, closed))

pub returns-then-steps_to-clause-next : goal.returns-then-steps_to-clause-next
returns-then-steps_to-clause-next g c =
    rw (← c.self.view_is)
    (next_from _ _ _ _ c.self.invariant.0.law.law _ _ (sym c.first_left.ensures ∙ c.in_ok-first.was)
    (sym c.first_open.ensures.first ∙ c.in_ok-open.was)
    (rw (← c.self.view_is) at c.steps_to-2.ensures) (rw (← c.self.view_is) at c.steps_to.ensures) c.if-steps_to.true)

pub returns-else-steps_to-clause-none : goal.returns-else-steps_to-clause-none
returns-else-steps_to-clause-none g c =
    rw (← c.self.view_is)
    (no_next_later _ _ _ _ c.self.invariant.0.law.law _ _ (sym c.first_left.ensures ∙ c.in_ok-first.was)
    (sym c.first_open.ensures.first ∙ c.in_ok-open.was)
    (rw (← c.self.view_is) at c.steps_to-2.ensures) (rw (← c.self.view_is) at c.steps_to.ensures) c.if-steps_to.false)

pub returns-then-steps_to-clause-open : goal.returns-then-steps_to-clause-open
returns-then-steps_to-clause-open g c =
    rw (← c.self.view_is) (sym c.first_open.ensures.first ∙ c.in_ok-open.was)

pub returns-then-steps_to-clause-above : goal.returns-then-steps_to-clause-above
returns-then-steps_to-clause-above g c = rw (← c.self.view_is) c.in_ok-open.ensures.above
