-- The steps of a taken entry are inserted, and it is marked expanded: what follows for the book.
use Rattle.std.proofs.Common.{◌≡◌, ℕ, suc, ◌+◌, ◌-◌, ◌^◌, ◌<◌, ◌≤◌, inl, inr, Bool, Some, IsSome, List, [], ◌∷◌, ◌++◌}
use Rattle.std.proofs.Common.{length, map, refl, sym, ◌∙◌, arith, slice_get, length-append, All}
use Rattle.std.proofs.lemmas.Bool.{cond_both}
use Rattle.std.proofs.lemmas.Option.{get_or_from_slice_get, slice_get_within}
use Rattle.std.proofs.Math.ListN.{length-map}
use Rattle.tree_machine.specs.Rules.{Rules}
use Rattle.tree_machine.specs.declared.state.State.{State}
use Rattle.tree_machine.proofs.Lists.{get-append_left, get_at, map-get}
use Rattle.book.specs.Entries.{Taken, Expanded, AreNew, At, Contents, Enters, Entry, IsFullFor, IsTaken, Successor}
use Rattle.book.specs.Entries.{opened, states, with_mark}
use Rattle.book.specs.Books.{machine_in, right_in, CountsAsOne, IsBook}
use Rattle.book.specs.ByLabel.{AreStepsOf}
use Rattle.book.specs.Unknown.{knows, unknown, with_successors}
use Rattle.book.specs.Labels.{AreKnownBy, Kept, same_as, same_label, steps_of}
use Rattle.book.specs.Slots.{with_steps}
use Rattle.replay.specs.Schedule.{AreOneBy, StepMachine}
use Rattle.book.proofs.Agreeing.{Agree}
use Rattle.book.proofs.EntryLemmas.{with_mark-append}
use Rattle.book.proofs.InBook.{with_entries}
use Rattle.book.proofs.Labels.{added, new_count}
use Rattle.book.proofs.LawfulBooks.{entered_book, met_fits}
use Rattle.book.proofs.Lists.{all_pushed}
use Rattle.book.proofs.Unknown.{at-states, length-unknown, list_any-false, list_any-true}

-- what is new by a test is new by a relation that agrees with it
module _ {S : Type 0} (m : StepMachine S) (same : S → S → Bool) (Same : S → S → Type 0)
    (agree : Agree m (AreOneBy same) Same) where
  are_new : (known : List S) → ((k : ℕ) (r : S) → slice_get known k ≡ Some r → m.Fits r)
      → (xs : List (Successor S)) → ((k : ℕ) (x : Successor S) → slice_get xs k ≡ Some x → m.Fits x.state)
      → AreNew Same known xs (unknown same known xs)
  are_new known fit [] fits = refl
  are_new known fit (x ∷ xs) fits =
      let rest = unknown same (known ++ x.state ∷ []) xs in
      let more = all_pushed m.Fits known x.state fit (fits 0 x refl) in
      let alike = λ (k : ℕ) (r : S) (at : slice_get known k ≡ Some r). agree r x.state (fit k r at) (fits 0 x refl) in
      cond_both (knows same known x.state) (unknown same known xs) (x ∷ rest) (AreNew Same known (x ∷ xs))
      (λ h. let w = list_any-true (λ r. same r x.state) known h in
      inl ((w.0, w.1, w.2, (alike w.0 w.1 w.2).0 w.3), are_new known fit xs (λ k. fits (suc k))))
      (λ h. inr (
        (λ w. cc ((alike w.0 w.1 w.2).1 w.3, list_any-false (λ r. same r x.state) known h w.0 w.1 w.2)),
        (rest, refl, are_new (known ++ x.state ∷ []) more xs (λ k. fits (suc k))),
      ))

module _ {Machine Memory Place Form : Type 0} {rules : Machine → Rules Memory Place}
    {label_of : State Machine Memory Place Form → List ℕ} {b : Contents Machine (State Machine Memory Place Form)}
    (book : IsBook rules label_of b) (i : ℕ) (e : Entry (State Machine Memory Place Form)) (at : At b.entries i e)
    (xs : List (Successor (List ℕ)))
    (steps : AreStepsOf (machine_in rules b) (right_in rules b) label_of e.state xs) where
  abbrev same : State Machine Memory Place Form → State Machine Memory Place Form → Bool
  same = same_as label_of

  -- the steps, and the new ones of them
  abbrev ys : List (Successor (State Machine Memory Place Form))
  ys = steps_of (machine_in rules b).step e.state xs

  abbrev news : List (Successor (State Machine Memory Place Form))
  news = unknown same (states b.entries) ys

  -- they lead somewhere, so their threads are enabled
  pub here_enabled : All (λ x. IsSome ((machine_in rules b).step e.state x.thread)) xs
  here_enabled k d less =
      let one = get_at xs k less in
      rw (get_or_from_slice_get xs k one.0 d one.1, steps.expansion.steps k _ (map-get _ xs k one.0 one.1)) refl

  news_are : AreNew (CountsAsOne (rules b.machine) b.merge) (states b.entries) ys news
  news_are =
      are_new (machine_in rules b) same (CountsAsOne (rules b.machine) b.merge) book.counts (states b.entries)
      (λ k r there. let d = at-states b.entries k r there in rw (← d.2) (book.law.law.fit k d.0 d.1))
      ys steps.expansion.fit

  -- a table of its entries, with the rows of the steps whose labels are new, if there is room for them
  module _ (kept : Kept (State Machine Memory Place Form)) (shown : kept.entries ≡ b.entries)
      (known : AreKnownBy label_of kept) where
    pub put_in : (after : Kept (State Machine Memory Place Form))
        → after ≡ with_steps (machine_in rules b).step e.state i kept xs
        → (after.entries ≡ b.entries ++ map (opened i) news) × AreKnownBy label_of after
    put_in after is =
        rw (← shown) (added label_of (machine_in rules b).step e.state kept known xs steps.labels i after is)

    pub full_for : b.limit < length b.entries + length (unknown same_label kept.labels xs)
        → IsFullFor (CountsAsOne (rules b.machine) b.merge) b ys
    full_for more =
        let count = new_count label_of (machine_in rules b).step e.state kept known xs steps.labels in
        (news, news_are, omega (arith, rw shown at count))

  module _ (taken : e.mark ≡ Taken) (appended : List (Entry (State Machine Memory Place Form)))
      (put : appended ≡ b.entries ++ map (opened i) news)
      (was len n : ℕ) (was_is : was ≡ length b.entries) (len_is : len ≡ length appended) (n_is : n ≡ length xs) where
    -- one entry is added for each unknown step
    grown : len ≡ was + length news
    grown = rw (was_is, len_is, put, length-append, length-map) refl

    few : (length news ≤ n) × (n ≡ length ys)
    few =
        let all : n ≡ length ys = n_is ∙ sym (length-map xs _) in
        (omega (arith, length-unknown same (states b.entries) ys), all)

    -- the counts fit their types, and the entry is taken still
    pub counts_fit : (was ≤ len) × (len - was ≤ n) × IsTaken appended i × (b.met + (n - (len - was)) < 2 ^ 64)
    counts_fit = (
      omega (arith, grown),
      omega (arith, grown, few),
      (e, rw put (get-append_left b.entries (map (opened i) news) i e at), taken),
      met_fits (machine_in rules b) same (right_in rules b) book.machine book.merges b book.law i e at taken ys
          steps.expansion (n - (len - was)) (omega (arith, few)),
    )

    module _ (new : List (Entry (State Machine Memory Place Form))) (marked : new ≡ with_mark appended i Expanded)
        (room : length appended ≤ b.limit) where
      entries_are : new ≡ with_successors same b.entries i ys
      entries_are =
          rw (marked, put)
          (with_mark-append b.entries (map (opened i) news) i Expanded (slice_get_within b.entries i e at))

      -- the book with them
      abbrev now : Contents Machine (State Machine Memory Place Form)
      now = record b { entries = new; met = b.met + (n - (len - was)) }

      pub book_entered : IsBook rules label_of now
      book_entered =
          rw entries_are (with_entries book (with_successors same b.entries i ys) (b.met + (n - (len - was)))
          (entered_book (machine_in rules b) same (right_in rules b) book.machine book.merges b book.law i e at taken ys
          steps.expansion (len - was) (n - (len - was)) (omega (arith, grown)) (omega (arith, grown, few))
          (omega (arith, grown))))

      pub enters : Enters (CountsAsOne (rules b.machine) b.merge) b now i (record {
        machine = b.machine;
        program = b.program;
        source = e.state;
        successors = ys;
      }) (len - was) (n - (len - was))
      enters =
          record {
            taken = (e, at, taken);
            own = record {
              machine = refl;
              program = refl;
              source = (λ d there. let same_entry : e ≡ d = cc (at, there) in rw same_entry refl);
            };
            added = news;
            are_new = news_are;
            room = omega (arith, grown);
            entries = entries_are;
            count = omega (arith, grown);
            each = omega (arith, grown, few);
            met_in_all = refl;
            machine = refl;
            program = refl;
            merge = refl;
            limit = refl;
          }
