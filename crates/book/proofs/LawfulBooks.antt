-- A book stays lawful, its totals included.
use Rattle.std.proofs.Common.{◌≡◌, ℕ, ◌+◌, ◌^◌, ◌<◌, ◌≤◌, Bool, None, is_some, List, [], ◌∷◌, length, map, get_or, refl}
use Rattle.std.proofs.Common.{sym, ap, ◌∙◌, arith, length-append}
use Rattle.std.specs.List.{range_with_len}
use Rattle.std.proofs.Math.ListN.{length-map}
use Rattle.std.proofs.lemmas.Bool.{cond_both}
use Rattle.std.proofs.lemmas.List.FromFn.{length-range_with_len}
use Rattle.std.proofs.lemmas.List.Sums.{sum_by-append, sum_by-le, length-filter, count_by-le-length}
use Rattle.sched_program.specs.Program.{Program}
use Rattle.book.specs.Entries.{Finding, Open, Taken, Expanded, Entry, Successor, Contents, At, IsNext, contents_of}
use Rattle.book.specs.Entries.{is_expanded, opened, states, with_mark}
use Rattle.options.specs.declared.options.Merge.{Merge}
use Rattle.replay.specs.Schedule.{AreOneBy, StepMachine, IsMachine, Merges, enabled_threads}
use Rattle.book.specs.Unknown.{with_successors, unknown}
use Rattle.book.specs.Law.{IsExpansion, IsLawfulBook, steps_entered}
use Rattle.book.proofs.EntryLemmas.{length-with_mark, sum-opened, sum-with_mark}
use Rattle.book.proofs.Kept.{taken_keeps, entered_keeps}
use Rattle.book.proofs.Lists.{get-single}

module _ {S : Type 0} (m : StepMachine S) where
  steps_bounded : IsMachine m → (s : S) → length (enabled_threads m s) < 256
  steps_bounded machine s =
      let enabled = count_by-le-length (λ t. is_some (m.step s t)) (range_with_len 0 m.threads) in
      rw length-filter (omega (arith, enabled, length-range_with_len 0 m.threads, machine.threads_bounded))

  -- an entry counts the steps of its state once it is expanded
  entered_bounded : IsMachine m → (e : Entry S) → steps_entered m e ≤ 256
  entered_bounded machine e =
      cond_both (is_expanded e.mark) (length (enabled_threads m e.state)) 0 (λ n. n ≤ 256)
      (λ _. omega (arith, steps_bounded machine e.state)) (λ _. omega arith)

module _ {X S : Type 0} (m : StepMachine S) (same : S → S → Bool) (right : S → Finding → Type 0) (machine : IsMachine m)
    (merges : Merges m same) where
  -- a book with the start alone is lawful
  pub opened_book : (x : X) (p : Program) (k : Merge) (n : ℕ) (s : S) (f : Finding) → s ≡ m.start → right s f → m.Fits s
      → 1 ≤ n → n ≤ 2000000
      → IsLawfulBook m (AreOneBy same) right
      (contents_of x p k n (record { state = s; finding = f; origin = None; mark = Open } ∷ []) 0)
  opened_book x p k n s f is_start is_right is_fit some bounded =
      let e : Entry S = record { state = s; finding = f; origin = None; mark = Open } in
      let none : (i : ℕ) (d : Entry S) → At (e ∷ []) i d → m.steps d.state ≡ m.steps s =
      λ i d at. rw (← (get-single e i d at).1) refl in
      record {
        law = record {
          start = (e, refl, is_start, refl);
          origins = (λ i d at pos. absurd (omega (arith, (get-single e i d at).0)));
          distinct = (λ i j d g at_i at_j h. omega (arith, (get-single e i d at_i).0, (get-single e j g at_j).0));
          findings = (λ i d at. rw (← (get-single e i d at).1) is_right);
          fit = (λ i d at. rw (← (get-single e i d at).1) is_fit);
          stands = (λ i t d r at done leads. let never = rw (← (get-single e i d at).1) at done in cc);
          ordered = (λ i j d g at_i at_j le. omega (arith, none i d at_i, none j g at_j));
          least = (λ i j d g at_i taken at_j h. omega (arith, none i d at_i, none j g at_j));
          near = (λ i j d g at_i h at_j. omega (arith, none i d at_i, none j g at_j));
        };
        within = some;
        limit = bounded;
        counted = refl;
      }

  -- one with an entry taken is lawful
  pub taken_book : (b : Contents X S) → IsLawfulBook m (AreOneBy same) right b → (i : ℕ) (e : Entry S)
      → IsNext m.steps b.entries i e
      → IsLawfulBook m (AreOneBy same) right (record b { entries = with_mark b.entries i Taken })
  taken_book b book i e next =
      let same_length = length-with_mark b.entries i Taken in
      record {
        law = taken_keeps m same right machine merges b.entries book.law i e next;
        within = rw same_length book.within;
        limit = book.limit;
        counted =
            omega (
              arith,
              book.counted,
              sum-with_mark (steps_entered m) b.entries i Taken e next.entry (rw next.is_open refl),
            );
      }

  module _ (b : Contents X S) (book : IsLawfulBook m (AreOneBy same) right b) (i : ℕ) (e : Entry S)
      (at_i : At b.entries i e)
      (is_taken : e.mark ≡ Taken)
      (xs : List (Successor S)) (expansion : IsExpansion m right e.state xs) where
    all_steps : length xs ≡ length (enabled_threads m e.state)
    all_steps = sym (length-map xs (λ (x : Successor S). x.thread)) ∙ ap length expansion.threads

    -- one with an entry's steps entered is lawful, if they have room
    pub entered_book : (new old_steps : ℕ) → length (unknown same (states b.entries) xs) ≡ new
        → new + old_steps ≡ length xs → length b.entries + new ≤ b.limit
        → IsLawfulBook m (AreOneBy same) right
        (record b { entries = with_successors same b.entries i xs; met = b.met + old_steps })
    entered_book new old_steps is_new all room =
        let us = unknown same (states b.entries) xs in
        let l : length (with_successors same b.entries i xs) ≡ length b.entries + new =
        rw (length-append, length-with_mark, length-map, is_new) refl in
        record {
          law = entered_keeps m same right machine merges b.entries book.law i e at_i is_taken xs expansion;
          within = omega arith;
          limit = book.limit;
          counted = (
              let p = sum_by-append (steps_entered m) (with_mark b.entries i Expanded) (map (opened i) us) in
              let z = sum-opened (steps_entered m) i (λ u. refl) us in
              let q = sum-with_mark (steps_entered m) b.entries i Expanded e at_i (rw is_taken refl) in
              omega (arith, book.counted, all_steps));
        }

    -- the count of known states stays small
    pub met_fits : (old_steps : ℕ) → old_steps ≤ length xs → b.met + old_steps < 2 ^ 64
    met_fits old_steps le =
        omega (
          arith,
          book.counted,
          book.within,
          book.limit,
          all_steps,
          sum_by-le (steps_entered m) 256 b.entries (λ k d less. entered_bounded m machine (get_or b.entries k d)),
          steps_bounded m machine e.state,
        )
