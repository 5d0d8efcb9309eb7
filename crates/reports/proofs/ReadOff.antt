-- What is read off a lawful book: the due answer, and that it is true.
use Rattle.std.proofs.Common.{◌≡◌, ℕ, zero, suc, ◌+◌, ◌<◌, ◌≤◌, ◌∙◌, true, false, inl, inr, None, Some, List, length}
use Rattle.std.proofs.Common.{refl, sym, ap, arith, count_by, leb}
use Rattle.std.proofs.lemmas.Bool.{true≢false, cases_lt, eq-eqb, eqb-true}
use Rattle.std.proofs.lemmas.List.Sums.{count_by-le-length}
use Rattle.std.specs.Global.{Vec}
use Rattle.tree_machine.specs.Rules.{Rules}
use Rattle.tree_machine.specs.declared.state.State.{State}
use Rattle.replay.specs.declared.finding.Finding.{Finding}
use Rattle.replay.specs.Findings.{is_sound}
use Rattle.replay.specs.Schedule.{AreOneBy, IsDecided, IsMachine, StepMachine, after}
use Rattle.options.specs.declared.options.Merge.{Merge}
use Rattle.options.specs.declared.options.Merge.TheVariants.{Names}
use Rattle.book.specs.declared.successor.Successor.{Successor}
use Rattle.book.specs.Books.{CountsAsOne, IsLawfulIn, machine_in, right_in}
use Rattle.book.specs.Closed.{IsClosed, IsWorkedOut}
use Rattle.book.specs.Counts.{IsCount}
use Rattle.book.specs.Entries.{At, Contents, Enters, Entry, IsFullFor, Steps, states}
use Rattle.book.specs.Law.{FindsAlike, IsExpansion, IsLawfulBook}
use Rattle.book.specs.Layers.{IsExpandedBelow, IsShallow}
use Rattle.book.proofs.Agreeing.{book_back}
use Rattle.book.proofs.Counts.{count_to_is}
use Rattle.book.proofs.Coverage.{stands_after}
use Rattle.book.proofs.Growth.{steps_bounded}
use Rattle.book.proofs.Ways.{fits_after, steps_after}
use Rattle.reports.specs.declared.answer.Answer.TheVariants as answer
use Rattle.reports.specs.Due.{IsAbove, IsFirstAbove}
use Rattle.reports.specs.Faults.{IsFaulty, IsLeastFault, LeadsToFault}
use Rattle.reports.specs.Headline.{HoldsTo}
use Rattle.reports.specs.Reading.{IsAtRest, IsFullIn, IsLastLayer, IsReadOff, IsWorkedOff, first_fault}
use Rattle.reports.proofs.Counting.{shallow_counted}
use Rattle.reports.proofs.Decided.{count_by_test, full_by_test, same_unknown}
use Rattle.reports.proofs.Growing.{more_than}
use Rattle.reports.proofs.Soundness.{correct_no_fault, expanded_unless, first_unsound, none_unsound, sound_correct}
use Rattle.reports.proofs.Verdicts.{more_above, of_test, one_count}

-- where the layers are worked off, that of a fault is the last
module _ {S : Type 0} (steps : S → ℕ) (es : List (Entry S)) (n : ℕ) (worked : IsWorkedOff steps es n) where
  last_of_fault : (i : ℕ) (e : Entry S) → At es i e → is_sound e.finding ≡ false → (steps e.state ≤ n)
      × IsLastLayer steps es (steps e.state)
  last_of_fault i e at fault =
      let many : ¬ (steps e.state < worked.layer) =
      λ less. true≢false (sym (worked.stands.sound i e at less) ∙ fault) in
      let is : steps e.state ≡ worked.layer = omega (arith, worked.stands.shallow i e at) in
      rw is (worked.within, (worked.stands.done, worked.stands.shallow))

-- where every entry is worked out too, none has n steps
at_rest : {S : Type 0} (steps : S → ℕ) (es : List (Entry S)) (merge : Merge) (n : ℕ) → IsWorkedOff steps es n
    → merge ≡ Names → IsWorkedOut es
    → (start : Entry S) → At es 0 start → steps start.state ≡ 0 → IsAtRest steps es merge n
at_rest steps es merge zero worked names out start at none =
    absurd (worked.stands.fresh 0 start at (omega (arith, worked.within)) (out 0 start at))
at_rest steps es merge (suc before) worked names out start at none = (
  names,
  before,
  (omega arith),
  (λ i e there.
      let few : ¬ (before < steps e.state) = λ over. worked.stands.fresh i e there
      (omega (arith, worked.stands.shallow i e there, worked.within)) (out i e there) in
      omega arith),
)

-- what the law of a book says of its machine, its states and its entries
pub record IsKnown {Machine Memory Place Form : Type 0} (rules : Machine → Rules Memory Place)
    (b : Contents Machine (State Machine Memory Place Form)) : Type 0 where
  pub machine : IsMachine (machine_in rules b)
  pub test : IsDecided (machine_in rules b) (CountsAsOne (rules b.machine) b.merge)
  pub findings : FindsAlike (machine_in rules b) (CountsAsOne (rules b.machine) b.merge) (right_in rules b)
  pub law : IsLawfulIn rules b

module _ {X Memory Place Form : Type 0} {rules : X → Rules Memory Place} {b : Contents X (State X Memory Place Form)}
    (known : IsKnown rules b) where
  abbrev S : Type 0
  S = State X Memory Place Form

  abbrev m : StepMachine S
  m = machine_in rules b

  abbrev Same : S → S → Type 0
  Same = CountsAsOne (rules b.machine) b.merge

  abbrev right : S → Finding → Type 0
  right = right_in rules b

  -- every schedule of at most n steps holds
  abbrev Holds : ℕ → Type 0
  Holds = HoldsTo X Form (rules b.machine) b.program

  -- every entry of at most n steps is sound
  abbrev AreSoundTo : ℕ → Type 0
  AreSoundTo n = (i : ℕ) (e : Entry S) → At b.entries i e → e.state.steps ≤ n → is_sound e.finding ≡ true

  -- the book is lawful by the test that decides which states count as one
  by_test : IsLawfulBook m (AreOneBy known.test.0) right b
  by_test = book_back m known.machine (AreOneBy known.test.0) Same known.test.2 right b known.law

  -- an entry has fewer steps than the book may have entries
  pub entry_steps : (id : ℕ) (e : Entry S) → At b.entries id e → e.state.steps < b.limit
  entry_steps id e at =
      steps_bounded m known.test.0 right known.machine b.entries by_test.law id b.limit e at known.law.within

  -- where entries of at most n steps are sound, and those of fewer expanded, every schedule of at most n steps holds
  holds_to : (n : ℕ) → IsExpandedBelow m.steps b.entries n → AreSoundTo n → Holds n
  holds_to n done sound c s short leads =
      let w =
      stands_after m known.test.0 right known.machine known.test.1 b.entries by_test.law n done c s short leads in
      let e_fits = known.law.law.fit w.0 w.1 w.2 in
      let s_fits = fits_after m known.machine c s leads in
      sound_correct (rules b.machine) b.program s (
        w.1.finding,
        known.findings w.1.state s e_fits s_fits ((known.test.2 w.1.state s e_fits s_fits).0 w.3) w.1.finding
            (known.law.law.findings w.0 w.1 w.2),
        sound w.0 w.1 w.2 (omega (arith, w.4, steps_after m known.machine c s leads)),
      )

  -- then a schedule that reaches a fault is longer
  fault_longer : (n : ℕ) → Holds n → (c : List ℕ) → IsFaulty m right c → n < length c
  fault_longer n holds c (finding, leads) =
      let longer : ¬ (length c ≤ n) = λ le.
      true≢false (sym (correct_no_fault (rules b.machine) b.program leads.state finding
      (holds c leads.state le leads.leads) leads.found) ∙ leads.fault) in
      omega arith

  least_longer : (n : ℕ) → Holds n → (F : ℕ) → IsLeastFault m right F → n < F
  least_longer n holds F least = omega (arith, fault_longer n holds least.schedule least.faulty, least.long)

  -- where entries of fewer than n steps are expanded, those of at most n are as many as the states that n steps reach
  counted : (n : ℕ) → IsExpandedBelow m.steps b.entries n
      → IsCount m Same n (count_by (λ (e : Entry S). leb e.state.steps n) b.entries)
  counted n done =
      of_test known.machine known.test
      (count_to_is m known.test.0 right known.machine known.test.1 b.entries by_test.law n done
      (λ s c leads. steps_after m known.machine c s leads))

  -- these are no more than the limit
  none_above : {n : ℕ} → IsExpandedBelow m.steps b.entries n → (j : ℕ) → j ≤ n → IsAbove m Same b.limit j → ⊥
  none_above done j le above =
      let count = counted j (λ i e at less. done i e at (omega arith)) in
      omega (
        arith,
        one_count known.machine known.test count above.1,
        above.2,
        count_by-le-length (λ (e : Entry S). leb e.state.steps j) b.entries,
        known.law.within,
      )

  -- and where no entry has more steps, all entries are as many
  count_all : (n : ℕ) → IsLastLayer m.steps b.entries n → IsCount m Same n (length b.entries)
  count_all n last =
      let all = (shallow_counted m.steps b.entries n _ _ refl refl).1 last.1 in
      rw (eqb-true _ _ all) at (counted n last.0)

  -- layer n is the last, and no entry is a fault
  module _ (n : ℕ) (none : first_fault b.entries ≡ None) (last : IsLastLayer m.steps b.entries n) where
    all_sound : (k : ℕ) → AreSoundTo k
    all_sound k i e at _ = none_unsound b.entries none i e at

    -- no fault is due, nor a stop
    due : ((F : ℕ) → IsLeastFault m right F → n < F) × ((J : ℕ) → IsFirstAbove m Same n b.limit J → ⊥)
        × IsCount m Same n (length b.entries)
    due = (
      least_longer n (holds_to n last.0 (all_sound n)),
      (λ J above. none_above last.0 J above.within above.above),
      count_all n last,
    )

    done_before : (before : ℕ) → n ≡ before + 1 → IsExpandedBelow m.steps b.entries before
    done_before before next i e at less = last.0 i e at (omega arith)

    -- where n steps reach as many states as one fewer, no entry has n steps
    count_rest : (before : ℕ) → n ≡ before + 1 → IsCount m Same before (length b.entries)
        → IsShallow m.steps b.entries before
    count_rest before next count =
        (shallow_counted m.steps b.entries before _ _ refl refl).0
        (eq-eqb _ _ (one_count known.machine known.test (counted before (done_before before next)) count))

    -- where the book moves on, every schedule of n steps holds
    pub holds_read_off : (IsAtRest m.steps b.entries b.merge n → ⊥) → (IsClosed b → ⊥)
        → IsReadOff rules b n (answer.Holds n)
    holds_read_off moves unclosed = record {
      due = (
        refl,
        due.0,
        due.1,
        due.2,
        (λ names before next count. moves (names, before, next, count_rest before next count)),
      );
      headline = holds_to n last.0 (all_sound n);
      first = none;
      closed = unclosed;
    }

    -- and where it rests, every schedule does
    pub every_read_off : IsAtRest m.steps b.entries b.merge n → IsReadOff rules b n answer.Every
    every_read_off (names, before, next, shallow) =
        let out : IsWorkedOut b.entries = λ i e at. last.0 i e at (omega (arith, shallow i e at)) in
        record {
          due = (
            due.0,
            due.1,
            due.2,
            names,
            (before, next, count_all before (done_before before next, shallow)),
          );
          headline = (λ c s leads. holds_to (length c) (λ i e at _. out i e at) (all_sound (length c)) c s (omega arith)
              leads);
          first = none;
          closed = (names, out);
        }

  -- a closed book that is worked off rests
  pub closed_rests : (n : ℕ) → IsClosed b → IsWorkedOff m.steps b.entries n → IsAtRest m.steps b.entries b.merge n
  closed_rests n closed worked =
      let start = known.law.law.start in
      at_rest m.steps b.entries b.merge n worked closed.0 closed.1 start.0 start.1
      (ap m.steps start.2 ∙ known.machine.from_zero)

  -- the first fault, with the schedule that is recorded of it
  module _ (id : ℕ) (first : first_fault b.entries ≡ Some id) (schedule : Vec ℕ)
      (way : (e : Entry S) × At b.entries id e × (after m schedule.items ≡ Some e.state)
      × (length schedule.items ≡ e.state.steps)) where
    is_fault : is_sound way.0.finding ≡ false
    is_fault =
        let f = first_unsound b.entries id first in
        let is : f.0 ≡ way.0 = cc (f.1, way.1) in rw is at f.2

    -- entries of fewer steps are sound, and of as many not all
    pub sound_before : (n : ℕ) → n < length schedule.items → AreSoundTo n
    sound_before n less i e at bounded =
        elim (cases_lt i id) [
          | inl before ↦ (first_unsound b.entries id first).3 i e before at
          | inr le ↦ absurd (omega (arith, known.law.law.ordered id i way.0 e way.1 at le, way.3))
        ]

    pub unsound_from : (n : ℕ) → length schedule.items ≤ n → AreSoundTo n → ⊥
    unsound_from n le sound = true≢false (sym (sound id way.0 way.1 (omega (arith, way.3))) ∙ is_fault)

    -- so every shorter schedule holds
    holds_before : (n : ℕ) → n < length schedule.items → Holds n
    holds_before n less =
        holds_to n (λ i e at bounded. expanded_unless e.mark
        (λ unexpanded. omega (arith, known.law.law.near i id e way.0 at unexpanded way.1, way.3)))
        (sound_before n less)

    -- where the book is worked off, its layer is the last
    pub fault_is_last : (n : ℕ) → IsWorkedOff m.steps b.entries n
        → (length schedule.items ≤ n) × IsLastLayer m.steps b.entries (length schedule.items)
    fault_is_last n worked = rw way.3 (last_of_fault m.steps b.entries n worked id way.0 way.1 is_fault)

    -- then the fault is the answer
    pub fault_read_off : (f : Finding) → (e : Entry S) × At b.entries id e × (e.finding ≡ f) → (n : ℕ)
        → length schedule.items ≤ n → IsLastLayer m.steps b.entries (length schedule.items)
        → IsReadOff rules b n (answer.Fault f schedule)
    fault_read_off f found n bounded last =
        let finding : way.0.finding ≡ f = (let one : way.0 ≡ found.0 = cc (way.1, found.1) in rw one found.2) in
        let fault : LeadsToFault m right schedule.items f = record {
          state = way.0.state;
          leads = way.2;
          found = rw finding at (known.law.law.findings id way.0 way.1);
          fault = rw finding at is_fault;
        } in
        record {
          due = (
            fault,
            record {
              schedule = schedule.items;
              long = refl;
              faulty = (f, fault);
              least = (λ c faulty.
                  let longer : ¬ (length c < length schedule.items) =
                  λ less. omega (arith, fault_longer (length c) (holds_before (length c) less) c faulty) in
                  omega arith);
            },
            bounded,
            (λ J above.
                let beyond : ¬ (J ≤ length schedule.items) = λ le. none_above last.0 J le above.above in omega arith),
            count_all (length schedule.items) last,
          );
          headline = record {
            fault = fault;
            none_shorter = (λ c s less leads. holds_before (length c) less c s (omega arith) leads);
          };
          first = (id, way.0, first, way.1, finding, way.2);
          closed = tt;
        }

  -- where the book has no room for a state's steps, whoever made them, it enters none of them
  pub not_entered : {s : S} {xs : List (Successor S)} {new : Contents X S} {id : ℕ} {x : Steps X S} {entered met : ℕ}
      → IsExpansion m right s xs → IsExpansion m right s x.successors → IsFullFor Same b xs
      → Enters Same b new id x entered met → ⊥
  not_entered left other full enters =
      let over = full_by_test known.test by_test left full in
      let as_many = same_unknown known.test.0 (states b.entries) left other in
      let count = count_by_test known.test by_test other refl enters in
      omega (arith, over, as_many, count, enters.room)

  -- an entry for whose steps there is no room, with the schedule that is recorded of it
  pub stopped_read_off : (id : ℕ) → IsFullIn rules b id → (d : ℕ)
      → (e : Entry S) × At b.entries id e × (d ≡ e.state.steps) → AreSoundTo d
      → (n limit : ℕ) → limit ≡ b.limit → d < n → IsReadOff rules b n (answer.Stopped limit d)
  stopped_read_off id full d way sound n limit at less =
      let one : full.entry ≡ way.0 = cc (full.at, way.1) in
      let layer : full.entry.state.steps ≡ d = rw one (sym way.2) in
      let done : IsExpandedBelow m.steps b.entries d =
      λ i e there fewer. expanded_unless e.mark
      (λ unexpanded. omega (arith, known.law.law.least id i full.entry e full.at full.taken there unexpanded)) in
      let holds = holds_to d done sound in
      record {
        due = (
          at,
          record {
            within = omega arith;
            above = more_above known.machine known.test (more_than known.machine known.test.1 by_test.law id full.at
                full.taken full.expansion d (omega arith) (full_by_test known.test by_test full.expansion full.full));
            first = (λ j above. let beyond : ¬ (j ≤ d) = λ le. none_above done j le above in omega arith);
          },
          (λ F least. omega (arith, least_longer d holds F least)),
        );
        headline = holds;
        first = tt;
        closed = tt;
      }
