-- How a book grows by one expansion.
use Rattle.std.proofs.Common.{◌≡◌, ℕ, ◌+◌, ◌<◌, ◌≤◌, inl, inr, Bool, false, not, cond, Option, Some, None, List, length}
use Rattle.std.proofs.Common.{refl, ap, ◌∙◌, arith, slice_get, position, count_by}
use Rattle.std.proofs.lemmas.List.Sums.{sum_by-append}
use Rattle.std.proofs.lemmas.Option.{slice_get_within}
use Rattle.book.specs.Entries.{Finding, Mark, Taken, Expanded, Entry, Successor, Takes, At, IsNext, with_mark, states}
use Rattle.book.specs.Entries.{is_expanded, is_open}
use Rattle.replay.specs.Schedule.{AreOneBy, StepMachine, IsMachine, Merges}
use Rattle.book.specs.Unknown.{with_successors, unknown}
use Rattle.book.specs.Law.{IsLawful, IsExpansion}
use Rattle.book.specs.Layers.{IsLeftTo, NoneTaken, GrowsFrom, IsThrough}
use Rattle.book.proofs.Closed.{worked_out}
use Rattle.book.proofs.Coverage.{along_origins}
use Rattle.book.proofs.Cursors.{first_is}
use Rattle.book.proofs.EntryLemmas.{each-with_mark, sum-opened, sum-with_mark, with_mark-at}
use Rattle.book.proofs.Next.{first_passes, next_from}
use Rattle.book.proofs.Kept.{entered_grows, entered_rests}
use Rattle.book.proofs.Marks.{expanded_from, not_expanded_from, open_between, open_fails, open_passes}

-- ---- which entries are left
module _ {S : Type 0} (m : StepMachine S) (same : S → S → Bool) (right : S → Finding → Type 0) (machine : IsMachine m)
    (es : List (Entry S)) (law : IsLawful m (AreOneBy same) right es) where
  -- an entry has no more steps than its number, so it has fewer than there may be entries
  pub steps_bounded : (i n : ℕ) (e : Entry S) → At es i e → length es ≤ n → m.steps e.state < n
  steps_bounded i n e at within =
      let bounded =
      along_origins m (AreOneBy same) right es law (λ i s. m.steps s ≤ i) (omega (arith, machine.from_zero))
      (λ i j t r s earlier leads le. omega (arith, machine.one_more r s t leads)) i e at in
      omega (arith, bounded, slice_get_within es i e at)

  -- where none is taken and some is left, one is next
  pub one_is_next : NoneTaken es → (n : ℕ) → IsLeftTo m.steps es n → ((i : ℕ) (e : Entry S) → IsNext m.steps es i e → ⊥)
      → ⊥
  one_is_next none_taken n left no_next = go (position (λ (r : Entry S). not (is_expanded r.mark)) es) refl
    where
      go : (o : Option ℕ) → position (λ (r : Entry S). not (is_expanded r.mark)) es ≡ o → ⊥
      go None h = left.3 (worked_out es h left.0 left.1 left.2)
      go (Some a) h =
          let f = first_passes (λ (r : Entry S). not (is_expanded r.mark)) es a h in
          let opens = open_between f.0.mark (not_expanded_from f.0.mark f.2) (none_taken a f.0 f.1) in
          let first_open =
          first_is (λ (r : Entry S). is_open r.mark) es a f.0 f.1 (open_passes f.0.mark opens)
          (λ j g at less. open_fails g.mark (λ o. cc (expanded_from g.mark (f.3 j g less at)))) in
          let next = next_from m same right es law a a h first_open (f.0, f.1, refl) (f.0, f.1, refl) refl in
          no_next a next.0 next.1

-- ---- one is taken, and then its steps are entered
module _ {S : Type 0} (m : StepMachine S) where
  -- entry j was there before, as f but for its mark, and f is expanded if that was
  abbrev WasThere : List (Entry S) → ℕ → Entry S → Type 0
  WasThere es j f = (d : Entry S) × At es j d × (f.state ≡ d.state) × (f.finding ≡ d.finding)
      × (d.mark ≡ Expanded → f.mark ≡ Expanded)

  taken_there : (es : List (Entry S)) (i : ℕ) (e : Entry S) → IsNext m.steps es i e → (j : ℕ) (f : Entry S)
      → At (with_mark es i Taken) j f → WasThere es j f
  taken_there es i e next =
      each-with_mark (WasThere es) es i Taken
      (λ d at. (d, at, refl, refl, λ x. cc (at, next.entry, next.is_open, x)))
      (λ j d at apart. (d, at, refl, refl, λ x. x))

  pub taken_grows : (es : List (Entry S)) (i : ℕ) (e : Entry S) → IsNext m.steps es i e
      → GrowsFrom m.steps es (with_mark es i Taken)
  taken_grows es i e next j f at = inl (taken_there es i e next j f at)

  pub taken_alone : (es : List (Entry S)) (i : ℕ) → NoneTaken es → (j : ℕ) (f : Entry S) → At (with_mark es i Taken) j f
      → f.mark ≡ Taken → i ≡ j
  taken_alone es i none =
      each-with_mark (λ j f. f.mark ≡ Taken → i ≡ j) es i Taken (λ e at taken. refl)
      (λ j e at apart taken. absurd (none j e at taken))

  pub taken_count : (es : List (Entry S)) (i : ℕ) (k : Mark) (e : Entry S) → At es i e → is_expanded e.mark ≡ false
      → count_by (λ (r : Entry S). is_expanded r.mark) (with_mark es i k)
      ≡ count_by (λ (r : Entry S). is_expanded r.mark) es + cond (is_expanded k) 1 0
  taken_count es i k e at closed =
      sum-with_mark (λ (r : Entry S). cond (is_expanded r.mark) 1 0) es i k e at (rw closed refl)

  entered_count : (same : S → S → Bool) (es : List (Entry S)) (i : ℕ) (e : Entry S) (xs : List (Successor S))
      → At es i e → e.mark ≡ Taken
      → count_by (λ (r : Entry S). is_expanded r.mark) (with_successors same es i xs)
      ≡ count_by (λ (r : Entry S). is_expanded r.mark) es + 1
  entered_count same es i e xs at taken =
      let opens =
      sum-opened (λ (r : Entry S). cond (is_expanded r.mark) 1 0) i (λ u. refl) (unknown same (states es) xs) in
      simp sum_by-append (omega (arith, taken_count es i Expanded e at (rw taken refl), opens))

  -- an entry is taken, and then the entries grow
  taken_joined : (a c : List (Entry S)) (i : ℕ) (e : Entry S) → IsNext m.steps a i e
      → GrowsFrom m.steps (with_mark a i Taken) c → GrowsFrom m.steps a c
  taken_joined a c i e next grows j f at =
      elim (grows j f at) [
        | inl o ↦ (
            let p = taken_there a i e next j o.0 o.1 in
            inl (p.0, p.1, o.2 ∙ p.2, o.3 ∙ p.3, (λ x. o.4 (p.4 x))))
        | inr o ↦ (
            let p = taken_there a i e next o.0 o.1 o.2 in
            inr (o.0, p.0, p.1, (λ x. o.3 (p.4 x)), o.4 ∙ ap (λ s. m.steps s + 1) p.2))
      ]

  -- what is through stays through
  pub through_grows : (n : ℕ) (old new : List (Entry S)) → IsThrough m.steps old n → GrowsFrom m.steps old new
      → IsThrough m.steps new n
  through_grows n old new through grows = record {
    done = (λ j f at less. elim (grows j f at) [
      | inl o ↦ o.4 (through.done j o.0 o.1 (rw (← o.2) less))
      | inr o ↦ absurd (o.3 (through.done o.0 o.1 o.2 (omega (arith, o.4))))
    ]);
    sound = (λ j f at bounded. elim (grows j f at) [
      | inl o ↦ rw o.3 (through.sound j o.0 o.1 (rw (← o.2) bounded))
      | inr o ↦ absurd (o.3 (through.done o.0 o.1 o.2 (omega (arith, o.4))))
    ]);
  }

-- one step of the exploration: an entry is taken, and its expansion entered
pub record IsAdvance {S : Type 0} (steps : S → ℕ) (old new : List (Entry S)) : Type 0 where
  pub grows : GrowsFrom steps old new
  pub none_taken : NoneTaken new
  pub more : count_by (λ (r : Entry S). is_expanded r.mark) new ≡ count_by (λ (r : Entry S). is_expanded r.mark) old + 1

module _ {S : Type 0} (m : StepMachine S) (same : S → S → Bool) (right : S → Finding → Type 0) (machine : IsMachine m)
    (merges : Merges m same) where
  pub advances : (a b c : List (Entry S)) (i : ℕ) (s : S) (d : Entry S) (xs : List (Successor S))
      → Takes m.steps a b i s → IsLawful m (AreOneBy same) right b
      → At b i d → d.mark ≡ Taken → IsExpansion m right d.state xs → c ≡ with_successors same b i xs → NoneTaken a
      → IsAdvance m.steps a c
  advances a b c i s d xs takes law at taken expansion is none =
      let alone = rw (← takes.after) at (taken_alone m a i none) in
      let counted = taken_count m a i Taken takes.entry takes.next.entry (ap is_expanded takes.next.is_open) in
      rw is (record {
        grows = taken_joined m a _ i takes.entry takes.next
            (rw (← takes.after) (entered_grows m same right machine merges b law i d at taken xs expansion));
        none_taken = entered_rests m same right machine merges b law i d at taken xs expansion alone;
        more = entered_count m same b i d xs at taken ∙ (rw takes.after (omega (arith, counted)));
      })

-- what was taken is a taken entry
pub taken_is : {S : Type 0} (steps : S → ℕ) (a b : List (Entry S)) (i : ℕ) (s : S) → Takes steps a b i s
    → (e : Entry S) × At b i e × (e.mark ≡ Taken) × (e.state ≡ s)
taken_is steps a b i s takes =
    let w = with_mark-at a i Taken i takes.entry takes.next.entry in (
      w.0,
      ap (λ es. slice_get es i) takes.after ∙ w.1,
      elim w.3 [ inl l ↦ l.1 | inr r ↦ absurd (r.0 refl) ],
      w.2.state ∙ takes.state,
    )
