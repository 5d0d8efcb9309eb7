use Rattle.std.proofs.Common.{refl}
use Rattle.book.specs.Entries.{Taken}
use Rattle.book.proofs.Cursors.{first_within}
use Rattle.book.proofs.InBook.{next_taken, state_bounded, state_fits}
use Rattle.book.proofs.Labels.{known_mark}
use Rattle.book.proofs.book.Book.take.Goals as goal

pub state_of-requires-after_bounds : goal.state_of-requires-after_bounds
state_of-requires-after_bounds g c κs within = first_within _ _ _ c.in-Some.ensures.open

pub invariant_of-self : goal.invariant_of-self
invariant_of-self g c =
    rw c.mark_taken.ensures (
      next_taken c.self.invariant.0 (rw (← c.self.view_is) at c.in-Some.ensures.next),
      known_mark _ c.self.inside.table c.in-Some.id Taken c.self.invariant.1,
    )

pub returns-clause-taken : goal.returns-clause-taken
returns-clause-taken g c =
    let next = c.in-Some.ensures.next in
    let there = c.in_ok-state.ensures in
    record {
      entry = next.0;
      next = next.1;
      state = cc (next.1.entry, there.1, there.2);
      after = rw (c.mark_taken.ensures, ← c.self.view_is) refl;
    }

pub returns-clause-fits : goal.returns-clause-fits
returns-clause-fits g c =
    rw (← c.self.view_is) (state_fits c.self.invariant.0 _ _ (rw (← c.self.view_is) at c.in_ok-state.ensures))

pub returns-clause-bounded : goal.returns-clause-bounded
returns-clause-bounded g c =
    rw (← c.self.view_is) (state_bounded c.self.invariant.0 _ _ (rw (← c.self.view_is) at c.in_ok-state.ensures))
