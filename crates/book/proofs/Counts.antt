-- How many states the schedules reach.
use Rattle.std.proofs.Common.{◌≡◌, ℕ, zero, suc, ◌<◌, ◌≤◌, inl, inr, Bool, true, false, Some, List, [], ◌∷◌, ◌++◌}
use Rattle.std.proofs.Common.{length, take, drop, count_by, get_or, refl, sym, ap, ◌∙◌, arith, slice_get, leb}
use Rattle.std.proofs.Common.{leb-false, leb-true, length-take-le, take-append-drop}
use Rattle.std.proofs.Math.ListN.{length-map}
use Rattle.std.specs.List.{prefix_len}
use Rattle.std.proofs.lemmas.Bool.{cases_lt, lt-leb}
use Rattle.std.proofs.lemmas.Option.{get_or_from_slice_get, slice_get-get_or, slice_get_within}
use Rattle.std.proofs.lemmas.List.{length_push}
use Rattle.std.proofs.lemmas.List.Sums.{sum_by-cons, prefix_len-le-length, prefix_len_passes, prefix_len_stops}
use Rattle.tree_machine.proofs.Lists.{get-append_left}
use Rattle.book.specs.Entries.{Finding, Expanded, Entry, At, states}
use Rattle.replay.specs.Schedule.{StepMachine, AreOneBy, IsMachine, Merges, after}
use Rattle.book.specs.Law.{IsLawful}
use Rattle.book.specs.Counts.{IsCount}
use Rattle.replay.specs.Laws.Schedules.{run_push}
use Rattle.book.proofs.EntryLemmas.{get-front}
use Rattle.book.proofs.Unknown.{at-states, states-at}
use Rattle.book.proofs.Coverage.{along_origins, stands_after}

module _ {X : Type 0} (k : ℕ) (xs : List X) (within : k ≤ length xs) (i : ℕ) (x : X) where
  get-take : slice_get (take k xs) i ≡ Some x → (i < k) × (slice_get xs i ≡ Some x)
  get-take here = (
    omega (arith, slice_get_within (take k xs) i x here, length-take-le k xs within),
    rw (take-append-drop k xs) at (get-append_left (take k xs) (drop k xs) i x here),
  )

  take-get : i < k → slice_get xs i ≡ Some x → slice_get (take k xs) i ≡ Some x
  take-get less here =
      get-front (take k xs) (drop k xs) i x (rw take-append-drop here) (omega (arith, length-take-le k xs within))

-- where the first k pass and no other does, k is their number
pub count_upto : {X : Type 0} (p : X → Bool) (xs : List X) (k : ℕ) → k ≤ length xs
    → ((i : ℕ) (x : X) → slice_get xs i ≡ Some x → i < k → p x ≡ true)
    → ((i : ℕ) (x : X) → slice_get xs i ≡ Some x → k ≤ i → p x ≡ false) → k ≡ count_by p xs
count_upto p [] k within below above = omega arith
count_upto p (w ∷ xs) zero within below above =
    let rest = count_upto p xs 0 (omega arith) (λ i x at l. absurd (omega arith))
    (λ i x at le. above (suc i) x at (omega arith)) in
    simp sum_by-cons (rw (above 0 w refl (omega arith)) (omega (arith, rest)))
count_upto p (w ∷ xs) (suc k) within below above =
    let rest = count_upto p xs k (omega arith) (λ i x at l. below (suc i) x at (omega arith))
    (λ i x at le. above (suc i) x at (omega arith)) in
    simp sum_by-cons (rw (below 0 w refl (omega arith)) (omega (arith, rest)))

module _ {S : Type 0} (m : StepMachine S) (same : S → S → Bool) (right : S → Finding → Type 0)
    (machine : IsMachine m) (merges : Merges m same) (es : List (Entry S))
    (law : IsLawful m (AreOneBy same) right es) where
  -- each entry's state is reached by a schedule of as many steps
  pub recorded : (i : ℕ) (e : Entry S) → At es i e → (c : List ℕ) × (after m c ≡ Some e.state)
      × (length c ≡ m.steps e.state)
  recorded =
      along_origins m (AreOneBy same) right es law
      (λ i s. (c : List ℕ) × (after m c ≡ Some s) × (length c ≡ m.steps s)) ([], refl, sym machine.from_zero)
      (λ i j t r s earlier leads (c, reached, count). (
        c ++ t ∷ [],
        run_push m c m.start r s t reached leads,
        simp length_push (omega (arith, machine.one_more r s t leads)),
      ))

  -- the entries of at most n steps are the first k: then k is the number of states
  pub count_is : (n k : ℕ) → ((i : ℕ) (e : Entry S) → At es i e → m.steps e.state < n → e.mark ≡ Expanded)
      → k ≤ length es → ((i : ℕ) (e : Entry S) → At es i e → i < k → m.steps e.state ≤ n)
      → ((i : ℕ) (e : Entry S) → At es i e → m.steps e.state ≤ n → i < k)
      → ((s : S) (c : List ℕ) → after m c ≡ Some s → m.steps s ≡ length c)
      → IsCount m (AreOneBy same) n k
  count_is n k done within below above steps_of =
      let many : k ≤ length (states es) = simp length-map within in
      record {
        states = take k (states es);
        many = length-take-le k (states es) many;
        apart = (λ i j x y at_i at_j h.
            let d = at-states es i x (get-take k (states es) many i x at_i).1 in
            let e = at-states es j y (get-take k (states es) many j y at_j).1 in
            law.distinct i j d.0 e.0 d.1 e.1 (rw (d.2, e.2) h));
        reached = (λ i x at.
            let a = get-take k (states es) many i x at in
            let d = at-states es i x a.1 in
            let c = recorded i d.0 d.1 in
            (c.0, omega (arith, below i d.0 d.1 a.0, c.2), c.1 ∙ ap Some d.2));
        all = (λ s r.
            let w = stands_after m same right machine merges es law n done r.0 s r.1 r.2 in
            let less = above w.0 w.1 w.2 (omega (arith, steps_of s r.0 r.2, r.1, w.4)) in
            (w.0, w.1.state, take-get k (states es) many w.0 w.1.state less (states-at es w.0 w.1 w.2), w.3));
      }

  -- the number of entries of at most n steps is the number of states that schedules of at most n steps reach, once all
  -- entries of fewer steps are expanded
  pub count_to_is : (n : ℕ) → ((i : ℕ) (e : Entry S) → At es i e → m.steps e.state < n → e.mark ≡ Expanded)
      → ((s : S) (c : List ℕ) → after m c ≡ Some s → m.steps s ≡ length c)
      → IsCount m (AreOneBy same) n (count_by (λ (e : Entry S). leb (m.steps e.state) n) es)
  count_to_is n done steps_of =
      let p = λ (e : Entry S). leb (m.steps e.state) n in
      let k = prefix_len p es in
      let below : (i : ℕ) (e : Entry S) → At es i e → i < k → p e ≡ true =
      λ i e at less. rw (get_or_from_slice_get es i e e at) at (prefix_len_passes p es i e less) in
      -- step counts never fall, so after the first entry of more steps all have more
      let above : (i : ℕ) (e : Entry S) → At es i e → k ≤ i → n < m.steps e.state =
      λ i e at le.
      let within : k < length es = omega (arith, slice_get_within es i e at) in
      let more = leb-false (m.steps (get_or es k e).state) n (prefix_len_stops p es e within) in
      omega (arith, more, law.ordered k i (get_or es k e) e (slice_get-get_or es k e within) at le) in
      rw (← count_upto p es k (prefix_len-le-length p es) below
      (λ i e at le. lt-leb (m.steps e.state) n (above i e at le)))
      (count_is n k done (prefix_len-le-length p es) (λ i e at less. leb-true (m.steps e.state) n (below i e at less))
      (λ i e at bounded. elim (cases_lt i k) [
        | inl less ↦ less
        | inr le ↦ absurd (omega (arith, above i e at le))
      ]) steps_of)
