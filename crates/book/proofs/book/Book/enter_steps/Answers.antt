use Rattle.std.proofs.Common.{◌+◌, ◌-◌, ◌^◌, ◌<◌, ◌≤◌, inl, inr, ◌∙◌, refl, sym, arith}
use Rattle.book.specs.Entries.{Expanded, IsTaken}
use Rattle.std.proofs.lemmas.Option.{same_Some}
use Rattle.book.proofs.Labels.{known_mark}
use Rattle.book.proofs.Putting.{book_entered, counts_fit, enters, full_for, here_enabled, put_in}
use Rattle.book.proofs.book.Book.enter_steps.Given.{Over}
use Rattle.book.proofs.book.Book.enter_steps.Goals.{After-len}
use Rattle.book.proofs.book.Book.enter_steps.Goals as goal

pub append-requires-clause-enabled : goal.append-requires-clause-enabled
append-requires-clause-enabled g c =
    let steps = rw (← c.self.view_is) at c.requires.steps in
    λ κs within e at. here_enabled c.self.invariant.0 c.args.id e at c.args.steps.items (steps e at)

-- the steps are put behind the entries, each unknown one of them
put : (g : Over) (c : After-len g)
    → (c.len-was.result ≤ c.len.result) × (c.len.result - c.len-was.result ≤ c.len-count.result)
    × IsTaken c.append.new.self.entries c.args.id
    × (c.self.inside.met + (c.len-count.result - (c.len.result - c.len-was.result)) < 2 ^ 64)
put g c =
    let taken = rw (← c.self.view_is) at c.requires.taken in
    let steps = (rw (← c.self.view_is) at c.requires.steps) taken.0 taken.1 in
    let put =
    put_in c.self.invariant.0 _ _ taken.1 _ steps c.self.inside.table refl c.self.invariant.1 _
    (c.in-Ok.ensures.put _ taken.1) in
    counts_fit c.self.invariant.0 _ _ taken.1 _ steps taken.2 _ put.0 _ _ _ c.len-was.ensures c.len.ensures
    (c.len-count.ensures ∙ c.args.steps.ok.0)

pub overflow_sub-entered : goal.overflow_sub-entered
overflow_sub-entered g c = (put g (goal.at.overflow_sub-entered g c).After-len).0

pub overflow_sub-met : goal.overflow_sub-met
overflow_sub-met g c = (put g (goal.at.overflow_sub-met g c).After-len).1

pub mark_expanded-requires : goal.mark_expanded-requires
mark_expanded-requires g c = (put g (goal.at.mark_expanded-requires g c).After-len).2

pub overflow_add-self : goal.overflow_add-self
overflow_add-self g c = omega (arith, (put g (goal.at.overflow_add-self g c).After-len).3)

pub invariant_of-self-in-Ok : goal.invariant_of-self-in-Ok
invariant_of-self-in-Ok g c =
    let taken = rw (← c.self.view_is) at c.requires.taken in
    let steps = (rw (← c.self.view_is) at c.requires.steps) taken.0 taken.1 in
    let put =
    put_in c.self.invariant.0 _ _ taken.1 _ steps c.self.inside.table refl c.self.invariant.1 _
    (c.in-Ok.ensures.put _ taken.1) in
    rw c.mark_expanded.ensures (
      book_entered c.self.invariant.0 _ _ taken.1 _ steps taken.2 _ put.0 _ _ _ c.len-was.ensures c.len.ensures
          (c.len-count.ensures ∙ c.args.steps.ok.0) _ refl c.in-Ok.ensures.within,
      known_mark _ c.append.new.self c.args.id Expanded put.1,
    )

pub returns-in-Err-clause-refused : goal.returns-in-Err-clause-refused
returns-in-Err-clause-refused g c =
    let steps = rw (← c.self.view_is) at c.requires.steps in
    rw (← c.self.view_is) (elim c.in-Err.ensures.refused [
      | inl memory ↦ inl memory
      | inr full ↦ inr (
        full.0,
        λ e at. full_for c.self.invariant.0 c.args.id e at _ (steps e at) c.self.inside.table refl c.self.invariant.1
            full.1,
      )
    ])

pub returns-in-Ok-clause-entered : goal.returns-in-Ok-clause-entered
returns-in-Ok-clause-entered g c =
    let taken = rw (← c.self.view_is) at c.requires.taken in
    let all_steps = rw (← c.self.view_is) at c.requires.steps in
    rw (← c.self.view_is) (λ e at.
    let steps = all_steps e at in
    let same = same_Some taken.0 e (sym taken.1 ∙ at) in
    let put =
    put_in c.self.invariant.0 _ _ at _ steps c.self.inside.table refl c.self.invariant.1 _ (c.in-Ok.ensures.put _ at) in
    enters c.self.invariant.0 _ e at _ steps (rw (← same) taken.2) _ put.0 _ _ _ c.len-was.ensures c.len.ensures
    (c.len-count.ensures ∙ c.args.steps.ok.0) _ (rw c.mark_expanded.ensures refl) c.in-Ok.ensures.within)
