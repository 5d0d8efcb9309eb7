-- Which entry is next.
use Rattle.std.proofs.Common.{◌≡◌, ℕ, ◌<◌, ◌≤◌, inl, inr, Bool, true, false, not, Some, None, List, [], ◌∷◌, length}
use Rattle.std.proofs.Common.{arith, refl, slice_get, position, lt-ltb}
use Rattle.std.specs.List.{position_or_len}
use Rattle.std.proofs.lemmas.Bool.{cases_lt}
use Rattle.std.proofs.lemmas.Option.{get_or_from_slice_get, slice_get_within}
use Rattle.std.proofs.lemmas.List.Quantifiers.{position-Some}
use Rattle.std.proofs.lemmas.List.Sums.{fails_before_first}
use Rattle.tree_machine.proofs.Lists.{get_at}
use Rattle.book.specs.Entries.{Finding, Entry, At, IsNext, is_open, is_expanded}
use Rattle.replay.specs.Schedule.{AreOneBy, StepMachine}
use Rattle.book.specs.Law.{IsLawful}
use Rattle.book.proofs.Marks.{open_from, left_passes, not_expanded_from, open_passes}

module _ {X : Type 0} (p : X → Bool) where
  -- the first that passes does, and none before it
  pub first_passes : (xs : List X) (i : ℕ) → position p xs ≡ Some i → (x : X) × (slice_get xs i ≡ Some x)
      × (p x ≡ true) × ((k : ℕ) (y : X) → k < i → slice_get xs k ≡ Some y → p y ≡ false)
  first_passes [] i h = cc
  first_passes (x ∷ xs) i h =
      let some = position-Some p (x ∷ xs) i x h in
      let at = get_at (x ∷ xs) i some.0 in (
        at.0,
        at.1,
        rw (get_or_from_slice_get (x ∷ xs) i at.0 x at.1) at some.1,
        λ k y less there. rw (get_or_from_slice_get (x ∷ xs) k y x there) at (some.2 k less),
      )

  -- and each other that passes stands after it
  pub first_of : (xs : List X) (i : ℕ) (x : X) → position p xs ≡ Some i → slice_get xs i ≡ Some x
      → (p x ≡ true) × ((k : ℕ) (y : X) → slice_get xs k ≡ Some y → p y ≡ true → i ≤ k)
  first_of xs i x h at =
      let f = first_passes xs i h in
      let same : f.0 ≡ x = cc (f.1, at) in (
        rw same at f.2,
        λ k y there passes. elim (cases_lt k i) [ inl l ↦ cc (f.3 k y l there) | inr le ↦ le ],
      )

  -- where there is no first, none passes
  pub none_passes : (xs : List X) → position p xs ≡ None → (k : ℕ) (y : X) → slice_get xs k ≡ Some y → p y ≡ false
  none_passes xs h k y at =
      elim (cases_lt (position_or_len p xs) (length xs)) [
        | inl l ↦ let some = rw (lt-ltb (position_or_len p xs) (length xs) l) at h in cc
        | inr le ↦ rw (get_or_from_slice_get xs k y y at) at
            (fails_before_first p xs k y (omega (arith, slice_get_within xs k y at)))
      ]

module _ {S : Type 0} (m : StepMachine S) (same : S → S → Bool) (right : S → Finding → Type 0) (es : List (Entry S))
    (law : IsLawful m (AreOneBy same) right es) where
  -- a is the first that is not expanded, which has j steps, and b the first open one, which has k
  module _ (a b : ℕ) (first : position (λ (r : Entry S). not (is_expanded r.mark)) es ≡ Some a)
      (open_one : position (λ (r : Entry S). is_open r.mark) es ≡ Some b) {j k : ℕ}
      (at_a : (d : Entry S) × At es a d × (m.steps d.state ≡ j))
      (at_b : (e : Entry S) × At es b e × (m.steps e.state ≡ k)) where
    left : (not (is_expanded at_a.0.mark) ≡ true)
        × ((i : ℕ) (e : Entry S) → At es i e → not (is_expanded e.mark) ≡ true → a ≤ i)
    left = first_of (λ (r : Entry S). not (is_expanded r.mark)) es a at_a.0 first at_a.1

    opens : (is_open at_b.0.mark ≡ true) × ((i : ℕ) (e : Entry S) → At es i e → is_open e.mark ≡ true → b ≤ i)
    opens = first_of (λ (r : Entry S). is_open r.mark) es b at_b.0 open_one at_b.1

    -- the open one is next if it has no more steps
    pub next_from : k ≡ j → (e : Entry S) × IsNext m.steps es b e
    next_from same_steps = (
      at_b.0,
      record {
        entry = at_b.1;
        is_open = open_from at_b.0.mark opens.0;
        fewest = (λ i g at not_done.
            let after = left.1 i g at (left_passes g.mark not_done) in
            omega (arith, at_a.2, at_b.2, law.ordered a i at_a.0 g at_a.1 at after));
        lowest = (λ i g at is_open_too _. opens.1 i g at (open_passes g.mark is_open_too));
      },
    )

    pub no_next_later : (k ≡ j → ⊥) → (i : ℕ) (g : Entry S) → IsNext m.steps es i g → ⊥
    no_next_later differ i g next =
        let left_too : not (is_expanded at_b.0.mark) ≡ true = rw (open_from at_b.0.mark opens.0) refl in
        let after = opens.1 i g next.entry (open_passes g.mark next.is_open) in
        differ (omega (
          arith,
          at_a.2,
          at_b.2,
          next.fewest a at_a.0 at_a.1 (not_expanded_from at_a.0.mark left.0),
          law.ordered a b at_a.0 at_b.0 at_a.1 at_b.1 (left.1 b at_b.0 at_b.1 left_too),
          law.ordered b i at_b.0 g at_b.1 next.entry after,
        ))
