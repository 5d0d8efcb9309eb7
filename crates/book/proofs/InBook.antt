-- What follows for the entries of a book. Its machine, which states count as one, and which findings are right are the
-- book's own.
use Rattle.std.proofs.Common.{◌≡◌, ℕ, ◌-◌, ◌<◌, ◌≤◌, inl, inr, Bool, not, Some, List}
use Rattle.std.proofs.Common.{arith, position}
use Rattle.std.specs.List.{range_with_len}
use Rattle.std.specs.declared.sync.Arc.{Arc}
use Rattle.tree_machine.specs.Rules.{Rules}
use Rattle.tree_machine.specs.Step.{Fits}
use Rattle.tree_machine.specs.declared.state.State.{State}
use Rattle.book.specs.Entries.{Taken, Entry, Contents, At, IsNext, is_expanded, with_mark, with_marks, Finding}
use Rattle.book.specs.Books.{machine_in, right_in, CountsAsOne, IsBook}
use Rattle.book.specs.Law.{IsLawfulBook}
use Rattle.book.specs.Labels.{same_as}
use Rattle.book.specs.Slots.{AllStates, AreStatesOf}
use Rattle.book.specs.Layers.{IsExpandedTo, IsLeftTo}
use Rattle.replay.specs.Schedule.{AreOneBy, StepMachine}
use Rattle.std.proofs.lemmas.Bool.{cases_lt}
use Rattle.book.proofs.Growth.{steps_bounded}
use Rattle.book.proofs.LawfulBooks.{taken_book}
use Rattle.book.proofs.Marks.{expanded_from, not_expanded_from}
use Rattle.book.proofs.Next.{first_passes}
use Rattle.book.proofs.Ranges.{IsLayerAt, range_book}

module _ {Machine Memory Place Form : Type 0} {rules : Machine → Rules Memory Place}
    {label_of : State Machine Memory Place Form → List ℕ} {b : Contents Machine (State Machine Memory Place Form)}
    (book : IsBook rules label_of b) where
  abbrev S : Type 0
  S = State Machine Memory Place Form

  abbrev m : StepMachine S
  m = machine_in rules b

  abbrev right : S → Finding → Type 0
  right = right_in rules b

  abbrev pub same_in : S → S → Bool
  same_in = same_as label_of

  abbrev Same : S → S → Type 0
  Same = CountsAsOne (rules b.machine) b.merge

  -- each entry has fewer steps than the book may have entries
  bounded_at : (i : ℕ) (e : Entry S) → At b.entries i e → e.state.steps < b.limit
  bounded_at i e at =
      steps_bounded m same_in right book.machine b.entries book.law.law i b.limit e at book.law.within

  -- the book with other entries is such a book where it is lawful
  pub with_entries : (es : List (Entry S)) (met : ℕ)
      → IsLawfulBook m (AreOneBy same_in) right (record b { entries = es; met = met })
      → IsBook rules label_of (record b { entries = es; met = met })
  with_entries es met law = record {
    law = law;
    limits = book.limits;
    machine = book.machine;
    merges = book.merges;
    findings = book.findings;
    counts = book.counts;
  }

  -- the book with the next entry taken
  pub next_taken : {i : ℕ} → (e : Entry S) × IsNext m.steps b.entries i e
      → IsBook rules label_of (record b { entries = with_mark b.entries i Taken })
  next_taken {i} next =
      with_entries (with_mark b.entries i Taken) b.met
      (taken_book m same_in right book.machine book.merges b book.law i next.0 next.1)

  -- the state of an entry, as it is lent
  pub state_fits : (i : ℕ) (state : S) → (e : Entry S) × At b.entries i e × (e.state ≡ state)
      → Fits (rules b.machine) b.program state
  state_fits i state at = rw (← at.2) (book.law.law.fit i at.0 at.1)

  pub state_bounded : (i : ℕ) (state : S) → (e : Entry S) × At b.entries i e × (e.state ≡ state)
      → state.steps < b.limit
  state_bounded i state at = rw (← at.2) (bounded_at i at.0 at.1)

  pub states_fit : {A : Type 0} (range : List (ℕ × Arc S A)) → AreStatesOf b.entries range
      → AllStates (Fits (rules b.machine) b.program) range
  states_fit range states k p at = state_fits p.0 p.1.value (states k p at)

  pub states_bounded : {A : Type 0} (range : List (ℕ × Arc S A)) → AreStatesOf b.entries range
      → AllStates (λ state. state.steps < b.limit) range
  states_bounded range states k p at = state_bounded p.0 p.1.value (states k p at)

  -- the book with a layer of it taken
  pub layer_taken : {start end : ℕ} → IsLayerAt m.steps b.entries start end
      → IsBook rules label_of (record b { entries = with_marks b.entries (range_with_len start (end - start)) Taken })
  layer_taken {start} {end} layer =
      with_entries (with_marks b.entries (range_with_len start (end - start)) Taken) b.met
      (range_book m same_in right book.machine book.merges (end - start) start end layer.count
      (omega (arith, layer.some)) b book.law layer.row)

  module _ (a k n : ℕ) (left : position (λ (e : Entry S). not (is_expanded e.mark)) b.entries ≡ Some a)
      (at_a : (e : Entry S) × At b.entries a e × (e.state.steps ≡ k)) where
    pub left_to : k ≤ n → IsLeftTo m.steps b.entries n
    left_to le =
        let f = first_passes (λ (e : Entry S). not (is_expanded e.mark)) b.entries a left in
        (a, at_a.0, at_a.1, (λ x. not_expanded_from f.0.mark f.2 (cc (f.1, at_a.1, x))), omega (arith, at_a.2))

    pub none_left_to : n < k → IsExpandedTo m.steps b.entries n
    none_left_to less i e at bounded =
        elim (cases_lt i a) [
          | inl l ↦ expanded_from e.mark
              ((first_passes (λ (e : Entry S). not (is_expanded e.mark)) b.entries a left).3 i e l at)
          | inr le ↦ absurd (omega (arith, at_a.2, book.law.law.ordered a i at_a.0 e at_a.1 at le))
        ]
