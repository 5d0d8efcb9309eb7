-- Entries in a row that are taken together.
use Rattle.std.proofs.Common.{◌≡◌, ◌≢◌, ℕ, zero, suc, ◌+◌, ◌-◌, ◌<◌, ◌≤◌, inl, inr, Bool, Option, Some, List, [], ◌∷◌}
use Rattle.std.proofs.Common.{◌++◌, length, map, refl, sym, ◌∙◌, arith, slice_get, position}
use Rattle.std.specs.List.{range_with_len}
use Rattle.std.specs.declared.sync.Arc.{Arc}
use Rattle.std.proofs.lemmas.Bool.{cases_lt}
use Rattle.std.proofs.lemmas.List.FromFn.{get_or-range_with_len, length-range_with_len}
use Rattle.std.proofs.lemmas.Option.{get_or_from_slice_get, slice_get_within}
use Rattle.tree_machine.proofs.Lists.{get_at, map-get}
use Rattle.book.specs.Entries.{Finding, Mark, Open, Taken, Expanded, Entry, Contents, At, IsInLayer, IsNext, TakesLayer}
use Rattle.book.specs.Entries.{TakesRange, is_open, with_mark, with_marks}
use Rattle.replay.specs.Schedule.{AreOneBy, StepMachine, IsMachine, Merges}
use Rattle.book.specs.Law.{IsLawfulBook}
use Rattle.book.specs.Slots.{AreCursors, AreStatesOf, IsOpenFrom}
use Rattle.book.proofs.EntryLemmas.{each-range, each-with_mark, length-with_mark}
use Rattle.book.proofs.ThreadSteps.{range-more}
use Rattle.book.proofs.Next.{first_passes}
use Rattle.book.proofs.Cursors.{cursors_taken}
use Rattle.book.proofs.LawfulBooks.{taken_book}
use Rattle.book.proofs.Marks.{open_passes}

-- ---- marks
pub range_next : (a i : ℕ) → a ≤ i → range_with_len a (i + 1 - a) ≡ range_with_len a (i - a) ++ i ∷ []
range_next a i le =
    let more : i + 1 - a ≡ i - a + 1 = omega arith in rw more (range-more a (i - a) i (omega arith))

module _ {S : Type 0} where
  marks-push : (es : List (Entry S)) (is : List ℕ) (i : ℕ) (k : Mark)
      → with_marks es (is ++ i ∷ []) k ≡ with_mark (with_marks es is k) i k
  marks-push es [] i k = refl
  marks-push es (j ∷ is) i k = marks-push (with_mark es j k) is i k

  -- one more is marked
  pub marks_more : (old mid new : List (Entry S)) (a i j : ℕ) (k : Mark)
      → mid ≡ with_marks old (range_with_len a (i - a)) k → new ≡ with_mark mid i k → a ≤ i → j ≡ i + 1
      → new ≡ with_marks old (range_with_len a (j - a)) k
  marks_more old mid new a i j k so_far marked le next =
      rw (marked, so_far, next, range_next a i le, marks-push) refl

  length-with_marks : (es : List (Entry S)) (is : List ℕ) (k : Mark) → length (with_marks es is k) ≡ length es
  length-with_marks es [] k = refl
  length-with_marks es (i ∷ is) k = length-with_marks (with_mark es i k) is k ∙ length-with_mark es i k

-- ---- what is given out
module _ {S A : Type 0} where
  -- the numbers are those in a row
  number_is : (range : List (ℕ × Arc S A)) (a n k : ℕ) (p : ℕ × Arc S A)
      → map (λ (x : ℕ × Arc S A). x.0) range ≡ range_with_len a n → slice_get range k ≡ Some p → (p.0 ≡ a + k) × (k < n)
  number_is range a n k p numbers at =
      let there = rw numbers at (map-get (λ (x : ℕ × Arc S A). x.0) range k p at) in
      let less = rw length-range_with_len at (slice_get_within (range_with_len a n) k p.0 there) in
      (sym (get_or_from_slice_get (range_with_len a n) k p.0 0 there) ∙ get_or-range_with_len a n k 0 less, less)

-- ---- the places that are looked for
pub cursors_range : {S : Type 0} (n a z : ℕ) → a + n ≡ z → {es : List (Entry S)} {left : ℕ} {fault : Option ℕ}
    → AreCursors es a left fault → z ≤ length es → AreCursors (with_marks es (range_with_len a n) Taken) z left fault
cursors_range zero a z is cursors within = let same : z ≡ a = omega arith in rw same cursors
cursors_range (suc n) a z is {es} cursors within =
    cursors_range n (a + 1) z (omega arith) (cursors_taken cursors (omega arith))
    (omega (arith, length-with_mark es a Taken))

-- ---- a layer
-- the entries numbered from a to below z are open and have k steps, none below is open, and none that is not expanded
-- has fewer
pub record IsRow {S : Type 0} (steps : S → ℕ) (k : ℕ) (es : List (Entry S)) (a z : ℕ) : Type 0 where
  pub below : (i : ℕ) (e : Entry S) → At es i e → i < a → e.mark ≢ Open
  pub are_open : (i : ℕ) (e : Entry S) → At es i e → a ≤ i → i < z → (e.mark ≡ Open) × (steps e.state ≤ k)
  pub least : (i : ℕ) (e : Entry S) → At es i e → e.mark ≢ Expanded → k ≤ steps e.state
  pub within : z ≤ length es

-- and they are all of these
pub record IsLayerAt {S : Type 0} (steps : S → ℕ) (es : List (Entry S)) (a z : ℕ) : Type 0 where
  pub count : ℕ
  pub row : IsRow steps count es a z
  pub some : a < z
  pub later : (i : ℕ) (e : Entry S) → At es i e → z ≤ i → count < steps e.state

module _ {S : Type 0} {steps : S → ℕ} {k a z : ℕ} {es : List (Entry S)} (row : IsRow steps k es a z)
    (some : a < z) where
  first_next : (e : Entry S) × IsNext steps es a e
  first_next =
      let at = get_at es a (omega (arith, row.within)) in
      let here = row.are_open a at.0 at.1 (omega arith) some in (
        at.0,
        record {
          entry = at.1;
          is_open = here.0;
          fewest = (λ j f there left. omega (arith, here.1, row.least j f there left));
          lowest = (λ j f there is_open_too _. elim (cases_lt j a) [
            | inl l ↦ absurd (row.below j f there l is_open_too)
            | inr le ↦ le
          ]);
        },
      )

  row_taken : IsRow steps k (with_mark es a Taken) (a + 1) z
  row_taken = record {
    below = each-with_mark (λ i d. i < a + 1 → d.mark ≢ Open) es a Taken (λ e at less q. cc)
        (λ i d at apart less. row.below i d at (omega arith));
    are_open = each-with_mark (λ i d. a + 1 ≤ i → i < z → (d.mark ≡ Open) × (steps d.state ≤ k)) es a Taken
        (λ e at le. absurd (omega arith)) (λ i d at apart le. row.are_open i d at (omega arith));
    least = each-with_mark (λ i d. d.mark ≢ Expanded → k ≤ steps d.state) es a Taken
        (λ e at left. row.least a e at (λ q. cc ((row.are_open a e at (omega arith) some).0, q)))
        (λ i d at apart left. row.least i d at left);
    within = rw length-with_mark row.within;
  }

module _ {S : Type 0} {steps : S → ℕ} {es : List (Entry S)} {a z : ℕ} (layer : IsLayerAt steps es a z) where
  -- an entry of it may be given out
  in_layer : (i : ℕ) (e : Entry S) → At es i e → a ≤ i → i < z → IsInLayer steps es i e.state
  in_layer i e at ge less =
      let here = layer.row.are_open i e at ge less in
      record {
        entry = e;
        there = at;
        is_open = here.0;
        state = refl;
        fewest = (λ j f there left. omega (arith, here.1, layer.row.least j f there left));
      }

  -- once it is taken, none is next
  none_after : (i : ℕ) (e : Entry S) → IsNext steps (with_marks es (range_with_len a (z - a)) Taken) i e → ⊥
  none_after i e next =
      let new = with_marks es (range_with_len a (z - a)) Taken in
      let is : a + (z - a) ≡ z = omega (arith, layer.some) in
      let here = get_at new a (omega (arith, layer.some, layer.row.within, length-with_marks es)) in
      let opens =
      each-range (λ j f. f.mark ≡ Open → layer.count < steps f.state) (z - a) a z is es Taken
      (λ j f at ge less opens. cc) (λ j f at out opens. elim (cases_lt j a) [
        | inl less ↦ absurd (layer.row.below j f at less opens)
        | inr ge ↦ elim (cases_lt j z) [ inl less ↦ absurd (out ge less) | inr le ↦ layer.later j f at le ]
      ]) i e next.entry next.is_open in
      let taken =
      each-range (λ j f. j ≡ a → (f.mark ≢ Expanded) × (steps f.state ≤ layer.count)) (z - a) a z is es Taken
      (λ j f at ge less same. (λ q. cc, (layer.row.are_open j f at ge less).1))
      (λ j f at out same. absurd (out (omega arith) (omega (arith, layer.some)))) a here.0 here.1 refl in
      omega (arith, opens, next.fewest a here.0 here.1 taken.0, taken.1)

  -- a layer that is taken, with its states or without them
  pub takes_layer : {A : Type 0} (new : List (Entry S)) (range : List (ℕ × Arc S A))
      → map (λ (p : ℕ × Arc S A). p.0) range ≡ range_with_len a (z - a) → AreStatesOf es range
      → new ≡ with_marks es (range_with_len a (z - a)) Taken → TakesLayer steps es new range
  takes_layer {A} new range numbers states marked = record {
    each = (λ k p at.
        let s = states k p at in
        let number = number_is range a (z - a) k p numbers at in
        rw (← s.2) (in_layer p.0 s.0 s.1 (omega (arith, number.0)) (omega (arith, number))));
    ascending = (λ j k p q at_j at_k less.
        omega (arith, (number_is range a (z - a) j p numbers at_j).0, (number_is range a (z - a) k q numbers at_k).0));
    after = rw numbers marked;
    none_next = (λ i e next. none_after i e (rw (← marked) next));
  }

  pub takes_range : (new : List (Entry S)) → new ≡ with_marks es (range_with_len a (z - a)) Taken
      → TakesRange steps es new a z
  takes_range new marked = record {
    each = (λ i ge less.
        let e = get_at es i (omega (arith, layer.row.within)) in
        (e.0.state, in_layer i e.0 e.1 ge less));
    within = layer.row.within;
    row = omega (arith, layer.some);
    after = marked;
    none_next = (λ i e next. none_after i e (rw (← marked) next));
  }

-- those from the next one on that have no more steps than it
pub layer_at : {S : Type 0} {steps : S → ℕ} {es : List (Entry S)} {a z k : ℕ} → (e : Entry S) × IsNext steps es a e
    → position (λ (r : Entry S). is_open r.mark) es ≡ Some a → IsOpenFrom es a
    → (e : Entry S) × At es a e × (steps e.state ≡ k)
    → ((i : ℕ) (e : Entry S) → At es i e → i < z → steps e.state ≤ k)
    → ((i : ℕ) (e : Entry S) → At es i e → z ≤ i → k < steps e.state) → z ≤ length es → IsLayerAt steps es a z
layer_at {S} {steps} {es} {a} {z} {k} next first above at below beyond within =
    let same : at.0 ≡ next.0 = cc (at.1, next.1.entry) in
    let here : steps next.0.state ≡ k = rw (← same) at.2 in
    record {
      count = k;
      row = record {
        below = (λ i d there less opens.
            let f = first_passes (λ (r : Entry S). is_open r.mark) es a first in
            cc (open_passes d.mark opens, f.3 i d less there));
        are_open = (λ i d there ge less. (above i d there ge, below i d there less));
        least = (λ i d there left. omega (arith, here, next.1.fewest i d there left));
        within = within;
      };
      some = elim (cases_lt a z) [
        | inl l ↦ l
        | inr le ↦ absurd (omega (arith, here, beyond a next.0 next.1.entry le))
      ];
      later = beyond;
    }

module _ {X S : Type 0} (m : StepMachine S) (same : S → S → Bool) (right : S → Finding → Type 0) (machine : IsMachine m)
    (merges : Merges m same) where
  -- a book whose next entries are taken is lawful
  pub range_book : (n a z k : ℕ) → a + n ≡ z → (b : Contents X S) → IsLawfulBook m (AreOneBy same) right b
      → IsRow m.steps k b.entries a z
      → IsLawfulBook m (AreOneBy same) right (record b { entries = with_marks b.entries (range_with_len a n) Taken })
  range_book zero a z k is b book row = book
  range_book (suc n) a z k is b book row =
      let next = first_next row (omega arith) in
      range_book n (a + 1) z k (omega arith) (record b { entries = with_mark b.entries a Taken })
      (taken_book m same right machine merges b book a next.0 next.1) (row_taken row (omega arith))
