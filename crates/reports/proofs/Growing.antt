-- What the steps of one more entry show of the entries and of the number of states.
use Rattle.std.proofs.Common.{◌≡◌, ◌≢◌, ℕ, ◌+◌, ◌<◌, ◌≤◌, inl, inr, Bool, Some, List, [], ◌∷◌, ◌++◌, length, map, sym}
use Rattle.std.proofs.Common.{ap, ◌∙◌, arith, slice_get, length-append}
use Rattle.std.proofs.Math.ListN.{length-map}
use Rattle.std.proofs.lemmas.List.{length_push}
use Rattle.tree_machine.proofs.Lists.{get-append_cases, get-map}
use Rattle.book.specs.declared.successor.Successor.{Successor}
use Rattle.replay.specs.declared.finding.Finding.{Finding}
use Rattle.book.specs.declared.entry.Mark.{Mark}
use Rattle.book.specs.declared.entry.Mark.TheVariants.{Taken, Expanded}
use Rattle.replay.specs.Schedule.{AreOneBy, StepMachine, IsMachine, Merges, IsReachableWithin}
use Rattle.book.specs.Entries.{Entry, At, with_mark, opened, states}
use Rattle.book.specs.Unknown.{with_successors, unknown}
use Rattle.book.specs.Law.{IsLawful, IsExpansion}
use Rattle.book.specs.Layers.{IsShallow}
use Rattle.book.specs.Counts.{IsMoreThan}
use Rattle.book.proofs.EntryLemmas.{each-with_mark}
use Rattle.book.proofs.Unknown.{at-states, unknown_is}
use Rattle.replay.specs.Laws.Schedules.{run_push}
use Rattle.book.proofs.Counts.{recorded}
use Rattle.reports.specs.Reading.{IsFresh}
use Rattle.reports.proofs.Reaching.{joined_apart}

pub not_expanded : (k : Mark) → k ≡ Taken → k ≢ Expanded
not_expanded k h e = let q : Taken ≡ Expanded = sym h ∙ e in cc

module _ {S : Type 0} {m : StepMachine S} {same : S → S → Bool} {right : S → Finding → Type 0} (machine : IsMachine m)
    (merges : Merges m same) {es : List (Entry S)} (law : IsLawful m (AreOneBy same) right es) where
  -- the new ones of an entry's steps
  abbrev news : List (Successor S) → List (Successor S)
  news xs = unknown same (states es) xs

  abbrev all_states : List (Successor S) → List S
  all_states xs = states es ++ map (λ (x : Successor S). x.state) (news xs)

  module _ (i : ℕ) {d : Entry S} (at : At es i d) (taken : d.mark ≡ Taken) {xs : List (Successor S)}
      (expansion : IsExpansion m right d.state xs) (n : ℕ) (bounded : m.steps d.state ≤ n) where
    no_deeper : IsShallow m.steps es (n + 1)
    no_deeper j f there = omega (arith, law.near i j d f at (not_expanded d.mark taken) there)

    new_steps : (k : ℕ) (y : Successor S) → slice_get (news xs) k ≡ Some y → m.step d.state y.thread ≡ Some y.state
    new_steps k y there = let w = unknown_is m same merges (states es) xs k y there in expansion.steps w.0.0 y w.0.1

    -- what is so of the entry once it is expanded, of each other, and of those of its new steps is so of each
    each_entered : (P : ℕ → Entry S → Type 0) → P i (record d { mark = Expanded })
        → ((j : ℕ) (f : Entry S) → At es j f → P j f)
        → ((j : ℕ) (y : Successor S) → m.step d.state y.thread ≡ Some y.state → P j (opened i y))
        → (j : ℕ) (f : Entry S) → At (with_successors same es i xs) j f → P j f
    each_entered P here other more j f there =
        elim (get-append_cases (with_mark es i Expanded) (map (opened i) (news xs)) j f there) [
          | inl l ↦ each-with_mark P es i Expanded (λ e at_i. let is : d ≡ e = cc (at, at_i) in rw (← is) here)
              (λ k e at_k apart. other k e at_k) j f l
          | inr r ↦ (
              let y = get-map (opened i) (news xs) r.0 f r.2 in
              rw y.2 (more j y.0 (new_steps r.0 y.0 y.1)))
        ]

    -- no entry of the next layer is expanded, if none was
    pub fresh_entered : IsFresh m.steps es (n + 1) → IsFresh m.steps (with_successors same es i xs) (n + 1)
    fresh_entered fresh =
        each_entered (λ j f. m.steps f.state ≡ n + 1 → f.mark ≢ Expanded) (λ deep. absurd (omega arith)) fresh
        (λ j y leads deep marked. cc (marked))

    -- no entry is deeper once the steps are entered
    pub shallow_entered : IsShallow m.steps (with_successors same es i xs) (n + 1)
    shallow_entered =
        each_entered (λ j f. m.steps f.state ≤ n + 1) (omega arith) no_deeper
        (λ j y leads. omega (arith, machine.one_more d.state y.state y.thread leads))

    all_reached : (k : ℕ) (x : S) → slice_get (all_states xs) k ≡ Some x → IsReachableWithin m (n + 1) x
    all_reached k x there =
        elim (get-append_cases (states es) (map (λ (x : Successor S). x.state) (news xs)) k x there) [
          | inl l ↦ (
              let e = at-states es k x l in
              let c = recorded m same right machine merges es law k e.0 e.1 in
              (c.0, omega (arith, c.2, no_deeper k e.0 e.1), c.1 ∙ ap Some e.2))
          | inr r ↦ (
              let y = get-map (λ (x : Successor S). x.state) (news xs) r.0 x r.2 in
              let c = recorded m same right machine merges es law i d at in (
                c.0 ++ y.0.thread ∷ [],
                omega (arith, c.2, length_push c.0 y.0.thread),
                run_push m c.0 m.start d.state y.0.state y.0.thread c.1 (new_steps r.0 y.0 y.1) ∙ ap Some (sym y.2),
              ))
        ]

    -- where the book has no room for the steps, more states are reached than it may have entries
    pub more_than : {limit : ℕ} → limit < length es + length (news xs) → IsMoreThan m (AreOneBy same) (n + 1) limit
    more_than full = record {
      states = all_states xs;
      many = simp (length-append, length-map) full;
      apart = joined_apart m same merges (states es) xs (λ j k x y at_j at_k h.
          let a = at-states es j x at_j in
          let b = at-states es k y at_k in
          law.distinct j k a.0 b.0 a.1 b.1 (cc (a.2, b.2, h)));
      reached = all_reached;
    }
