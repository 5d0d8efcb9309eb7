-- A list is a linearization exactly if it completes one from nothing.
use Rattle.std.proofs.Common.{◌≡◌, ℕ, zero, suc, ◌+◌, ◌<◌, ◌≤◌, inl, inr, false, true, true≢false, List, [], ◌∷◌}
use Rattle.std.proofs.Common.{length, get_or, take, drop, Some, IsSome, slice_get, refl, sym, ap, ◌∙◌, arith, ◌↔◌}
use mathlib.Core.Path.{fun_ext}
use Rattle.std.proofs.lemmas.Bool.{cases_Bool, cases_lt, false_from_ne_true}
use Rattle.std.proofs.lemmas.List.{drop_more, take_all, drop_all, length-take, get_or-take}
use Rattle.std.proofs.lemmas.List.Folds.{list_any_more}
use Rattle.std.proofs.lemmas.Option.{slice_get_within, slice_get-get_or, get_or_from_slice_get}
use Rattle.sched_program.specs.declared.operation.OpId.{OpId}
use Rattle.sched_program.specs.Name.{same_name}
use Rattle.sched_program.specs.Program.{Program, op_at}
use Rattle.sched_program.specs.History.{History, reply, EndedBefore}
use Rattle.lin.specs.Keys.{Keys, keys_of, keys_after}
use Rattle.lin.specs.Linearization.{GivesReplies, IsLinearization}
use Rattle.lin.specs.Completion.{Listed, listed_in, with_name, StandsNext, Completes, EveryFinishedIsListed}
use Rattle.lin.proofs.Bounds.{first_given}
use Rattle.lin.proofs.Lists.{IsSomeAnd-value}
use Rattle.lin.proofs.Names.{same_name-is, with_name-earlier, listed-Contains, Contains-listed}

module _ (order : List OpId) where
  -- one more operation is listed
  pub listed_more : (i : ℕ) (d : OpId) → i < length order
      → with_name (listed_in (take i order)) (get_or order i d) ≡ listed_in (take (i + 1) order)
  listed_more i d within = fun_ext (λ a. sym (list_any_more (λ b. same_name b a) order i d within))

  -- the first operations of the list are those at the first places
  place_of : (n : ℕ) (a : OpId) → listed_in (take n order) a ≡ true
      → (k : ℕ) × (k < n) × (slice_get order k ≡ Some a)
  place_of n a listed =
      let (k, within, is) = Contains-listed (take n order) a listed in
      let below : k < n = omega (arith, length-take n order) in
      let at : get_or order k a ≡ a = sym (get_or-take n order k a below) ∙ is in
      (k, below, slice_get-get_or order k a (omega (arith, length-take n order)) ∙ ap Some at)

  listed_at : (n k : ℕ) (a : OpId) → k < n → slice_get order k ≡ Some a → listed_in (take n order) a ≡ true
  listed_at n k a below at =
      let within = slice_get_within order k a at in
      listed-Contains (take n order) a (
        k,
        omega (arith, length-take n order),
        get_or-take n order k a below ∙ get_or_from_slice_get order k a a at,
      )

module _ (program : Program) (history : History) where
  module _ (order : List OpId) (was : IsLinearization program history order) where
    -- a linearization completes what begins with its first operations
    completes : (n i : ℕ) (keys : Keys) → n + i ≡ length order → GivesReplies program history keys (drop i order)
        → Completes program history (listed_in (take i order)) keys (drop i order)
    completes zero i keys e given =
        rw (take_all i order (omega arith), drop_all i order (omega arith))
        (λ a finished. listed-Contains order a (was.complete a finished))
    completes (suc n) i keys e given =
        let d : OpId = record { thread = 0; index = 0 } in
        let within : i < length order = omega arith in
        let cut = drop_more order i d within in
        let first = first_given program history keys (get_or order i d) (drop (i + 1) order) (rw cut at given) in
        let x = get_or order i d in
        let next = keys_after first.0 keys in
        let more = listed_more order i d within in
        let stands : StandsNext program history (listed_in (take i order)) keys x next = record {
          begun = was.begun i d within;
          new = false_from_ne_true _ (λ listed.
              let at = place_of order i x listed in
              was.distinct at.0 i d at.1 within (get_or_from_slice_get order at.0 x d at.2));
          in_time = λ b listed ended.
              let at = place_of order (i + 1) b (ap (λ f. f b) (sym more) ∙ listed) in
              let before = was.in_time i at.0 x b (slice_get-get_or order i d within) at.2 ended in
              omega (arith, at.1);
          gives = rw first.1 (first.2.0, refl);
        } in
        rw cut (next, stands, rw more (completes n (i + 1) next (omega arith) first.2.1))

  pub IsLinearization-completes : (order : List OpId) → IsLinearization program history order
      → Completes program history (listed_in []) (keys_of program.initial) order
  IsLinearization-completes order was =
      completes order was (length order) 0 (keys_of program.initial) (omega arith) was.replies

  -- what a list says that completes what begins with its first operations
  record Completed (order : List OpId) (i : ℕ) (keys : Keys) : Type 0 where
    each : (j : ℕ) (a : OpId) → i ≤ j → slice_get order j ≡ Some a
        → (now next : Keys) × StandsNext program history (listed_in (take j order)) now a next
    every : EveryFinishedIsListed history (listed_in order)
    replies : GivesReplies program history keys (drop i order)

  completed : (order : List OpId) (n i : ℕ) (keys : Keys) → n + i ≡ length order
      → Completes program history (listed_in (take i order)) keys (drop i order) → Completed order i keys
  completed order zero i keys e every = record {
    each = λ j a from at. absurd (omega (arith, slice_get_within order j a at));
    every = rw (take_all i order (omega arith), drop_all i order (omega arith)) at every;
    replies = rw (drop_all i order (omega arith)) tt;
  }
  completed order (suc n) i keys e c =
      let d : OpId = record { thread = 0; index = 0 } in
      let within : i < length order = omega arith in
      let first = rw (drop_more order i d within) at c in
      let rest = completed order n (i + 1) first.0 (omega arith) (rw (listed_more order i d within) at first.2) in
      let gives = IsSomeAnd-value (op_at program (get_or order i d).thread (get_or order i d).index) _ first.1.gives in
      record {
        each = λ j a from at. elim (cases_lt i j) [
          | inl later ↦ rest.each j a (omega arith) at
          | inr here ↦
              let same : j ≡ i = omega arith in
              rw (same, ← get_or_from_slice_get order i a d (rw same at at)) (keys, first.0, first.1)
        ];
        every = rest.every;
        replies = rw (drop_more order i d within, gives.1) (gives.2.0, rw (← gives.2.1) rest.replies);
      }

  -- what completes what begins with nothing is a linearization
  pub Completes-linearization : (order : List OpId)
      → Completes program history (listed_in []) (keys_of program.initial) order → IsLinearization program history order
  Completes-linearization order c =
      let all = completed order (length order) 0 (keys_of program.initial) (omega arith) c in
      record {
        begun = λ k d within. (all.each k _ (omega arith) (slice_get-get_or order k d within)).2.begun;
        distinct = λ i j d before within same.
            let late = (all.each j _ (omega arith) (slice_get-get_or order j d within)).2.new in
            let early = listed_at order j i _ before (slice_get-get_or order i d (omega arith)) in
            true≢false (sym early ∙ rw (← same) at late);
        complete = λ a finished. Contains-listed order a (all.every a finished);
        in_time = λ i j a b at_i at_j ended. elim (cases_lt i j) [
          | inl before ↦ before
          | inr late ↦
              let within = slice_get_within order i a at_i in
              let more = rw (get_or_from_slice_get order i a a at_i) at (listed_more order i a within) in
              absurd ((all.each i a (omega arith) at_i).2.in_time b
              (ap (λ f. f b) more ∙ listed_at order (i + 1) j b (omega arith) at_j) ended)
        ];
        replies = all.replies;
      }

  -- in a list that completes, no finished operation that is not listed ended before a listed one began
  pub never_late : (listed : Listed) (keys : Keys) (rest : List OpId) (late name : OpId)
      → Completes program history listed keys rest → IsSome (reply history late) → listed late ≡ false
      → listed name ≡ true → EndedBefore history late name → ⊥
  never_late listed keys [] late name every finished new among ended =
      true≢false (sym (every late finished) ∙ new)
  never_late listed keys (x ∷ xs) late name c finished new among ended = elim (cases_Bool (same_name x late)) [
    | inl same ↦
        c.1.in_time name (with_name-earlier listed x name among) (rw (← same_name-is x late same) at ended)
    | inr other ↦ never_late (with_name listed x) c.0 xs late name c.2 finished (rw (new, other) refl)
        (with_name-earlier listed x name among) ended
  ]

  -- an operation that comes next leaves one set of keys
  pub StandsNext-same : (listed : Listed) (keys next next' : Keys) (a : OpId)
      → StandsNext program history listed keys a next → StandsNext program history listed keys a next' → next ≡ next'
  StandsNext-same listed keys next next' a s t =
      let one = IsSomeAnd-value (op_at program a.thread a.index) _ s.gives in
      let two = IsSomeAnd-value (op_at program a.thread a.index) _ t.gives in
      cc (one.1, two.1, one.2.1, two.2.1)

  -- where the next operation may come next, what is left of the list completes exactly if the list after it does
  pub Completes-more : (order : List OpId) (i : ℕ) (d : OpId) → i < length order → (keys next : Keys) (A : Type 0)
      → StandsNext program history (listed_in (take i order)) keys (get_or order i d) next
      → A ↔ Completes program history (listed_in (take i order)) keys (drop i order)
      → A ↔ Completes program history (listed_in (take (i + 1) order)) next (drop (i + 1) order)
  Completes-more order i d within keys next A s before =
      let listed = listed_in (take i order) in
      let cut = drop_more order i d within in
      let more = listed_more order i d within in (
        λ a.
            let c = rw cut at (before.0 a) in
            rw (← more, StandsNext-same listed keys next c.0 (get_or order i d) s c.1) c.2,
        λ c. before.1 (rw cut (next, s, rw more c)),
      )

  -- where it doesn't, nothing that begins with it completes
  pub Completes-stuck : (order : List OpId) (i : ℕ) (d : OpId) → i < length order → (keys : Keys)
      → ((next : Keys) → StandsNext program history (listed_in (take i order)) keys (get_or order i d) next → ⊥)
      → Completes program history (listed_in (take i order)) keys (drop i order) → ⊥
  Completes-stuck order i d within keys none c =
      let first = rw (drop_more order i d within) at c in none first.0 first.1
