-- One more entry of a layer is taken, and its steps are entered or refused.
use Rattle.std.proofs.Common.{◌≡◌, ◌≢◌, ℕ, ◌+◌, ◌^◌, ◌<◌, ◌≤◌, Bool, length, sym, ap, ◌∙◌, arith}
use Rattle.std.proofs.Common.{length-append, refl, count_by, subst}
use Rattle.std.proofs.Math.ListN.{length-map}
use Rattle.std.proofs.lemmas.List.Sums.{count_by-le-length}
use Rattle.sched_program.specs.Program.{Program}
use Rattle.tree_machine.specs.Rules.{Rules}
use Rattle.tree_machine.specs.declared.state.State.{State}
use Rattle.replay.specs.declared.finding.Finding.{Finding}
use Rattle.replay.specs.Schedule.{AreOneBy, StepMachine, IsMachine, IsDecided}
use Rattle.book.specs.declared.entry.Mark.TheVariants.{Taken, Expanded}
use Rattle.book.specs.Books.{machine_in, right_in, HoldsSteps, CountsAsOne, IsLawfulIn}
use Rattle.book.specs.Entries.{At, Entry, Contents, IsFullFor, Takes, is_expanded, IsOwn, Steps, Enters, IsTaken}
use Rattle.book.specs.Unknown.{with_successors}
use Rattle.book.specs.Law.{IsLawfulBook, IsExpansion}
use Rattle.book.specs.Layers.{IsLeftTo}
use Rattle.book.proofs.Agreeing.{book_back}
use Rattle.book.proofs.EntryLemmas.{each-with_mark, length-with_mark}
use Rattle.book.proofs.LawfulBooks.{met_fits}
use Rattle.book.proofs.Growth.{IsAdvance, advances, taken_grows, taken_is, taken_count, through_grows}
use Rattle.reports.specs.declared.answer.Share.{Share}
use Rattle.reports.specs.Driving.{IsInLayer, IsLedgerOf}
use Rattle.reports.specs.Reading.{IsCutAt, IsFresh, IsCutIn}
use Rattle.reports.proofs.Growing.{not_expanded, fresh_entered, shallow_entered}
use Rattle.reports.proofs.Decided.{count_by_test, entered_by_test}

-- ---- what is of an entry

-- what an expansion holds is right for the book that it is made for
pub expansion_in : {X Memory Place Form : Type 0} (rules : X → Rules Memory Place)
    (b : Contents X (State X Memory Place Form)) (x : Steps X (State X Memory Place Form))
    (s : State X Memory Place Form)
    → x.machine ≡ b.machine → x.program ≡ b.program → x.source ≡ s → HoldsSteps rules x
    → IsExpansion (machine_in rules b) (right_in rules b) s x.successors
expansion_in rules b x s machine program source holds = rw (machine, program, source) at holds

-- whatever is of the machine, the program and the state of an entry is that entry's own
pub own_of : {X S : Type 0} (b : Contents X S) (i : ℕ) (e : Entry S) → At b.entries i e → (x : X) (p : Program) (s : S)
    → x ≡ b.machine → p ≡ b.program → s ≡ e.state → IsOwn b i x p s
own_of b i e at x p s machine program state = record {
  machine = machine;
  program = program;
  source = (λ f there. let one : e ≡ f = cc (at, there) in rw (← one) state);
}

-- while layer d of book b is expanded, its entry i is taken, which makes the book mid, and x are its steps
pub record IsNext {X Memory Place Form : Type 0} (rules : X → Rules Memory Place)
    (b mid : Contents X (State X Memory Place Form)) (d i : ℕ) (x : Steps X (State X Memory Place Form)) : Type 0 where
  pub machine : IsMachine (machine_in rules b)
  pub test : IsDecided (machine_in rules b) (CountsAsOne (rules b.machine) b.merge)
  pub law : IsLawfulIn rules mid
  pub same : mid ≡ record b { entries = mid.entries }
  pub layer : IsInLayer (machine_in rules b).steps b.entries d
  pub left : IsLeftTo (machine_in rules b).steps b.entries d
  pub state : State X Memory Place Form
  pub takes : Takes (machine_in rules b).steps b.entries mid.entries i state
  pub own : x.machine ≡ mid.machine
  pub program : x.program ≡ b.program
  pub source : x.source ≡ state
  pub holds : HoldsSteps rules x

module _ {X Memory Place Form : Type 0} {rules : X → Rules Memory Place}
    {b mid : Contents X (State X Memory Place Form)} {d i : ℕ} {x : Steps X (State X Memory Place Form)}
    (next : IsNext rules b mid d i x) where
  abbrev S : Type 0
  S = State X Memory Place Form

  abbrev m : StepMachine S
  m = machine_in rules b

  abbrev same : S → S → Bool
  same = next.test.0

  abbrev right : S → Finding → Type 0
  right = right_in rules b

  -- what is the same of the two books
  kept : (mid.machine ≡ b.machine) × (mid.program ≡ b.program) × (mid.merge ≡ b.merge) × (mid.met ≡ b.met)
  kept = rw next.same (refl, refl, refl, refl)

  law : IsLawfulBook m (AreOneBy same) right mid
  law =
      book_back m next.machine (AreOneBy same) (CountsAsOne (rules b.machine) b.merge) next.test.2 right mid
      (subst (λ (q : Contents X S). IsLawfulBook (machine_in rules q) (CountsAsOne (rules q.machine) q.merge)
      (right_in rules q) mid) next.same next.law)

  -- the entry that is taken
  entry : (e : Entry S) × At mid.entries i e × (e.mark ≡ Taken) × (e.state ≡ next.state)
  entry = taken_is m.steps b.entries mid.entries i next.state next.takes

  expansion : IsExpansion m right entry.0.state x.successors
  expansion =
      rw entry.3 (expansion_in rules b x next.state (next.own ∙ kept.0) next.program next.source next.holds)

  same_length : length mid.entries ≡ length b.entries
  same_length = rw next.takes.after (length-with_mark b.entries i Taken)

  same_steps : m.steps next.takes.entry.state ≡ m.steps entry.0.state
  same_steps = ap m.steps (next.takes.state ∙ sym entry.3)

  bounded : m.steps entry.0.state ≤ d
  bounded =
      let fewest = next.takes.next.fewest next.left.0 next.left.1 next.left.2 next.left.3 in
      omega (arith, fewest, next.left.4, same_steps)

  -- so it is not refused as one that is not taken, or as that of a stranger
  pub there_it_is : IsTaken mid.entries i
  there_it_is = (entry.0, entry.1, entry.2)

  pub its_own : IsOwn mid i x.machine x.program x.source
  its_own =
      own_of mid i entry.0 entry.1 x.machine x.program x.source next.own (next.program ∙ sym kept.1)
      (next.source ∙ sym entry.3)

  -- where it is refused, the share counts the book
  pub ledger_of_refused : (after : Contents X S) → after ≡ mid → (share : Share) → IsLedgerOf b share
      → IsLedgerOf after share
  ledger_of_refused after err share ledger = rw err (record {
    expanded =
        rw next.takes.after (omega (
          arith,
          ledger.expanded,
          taken_count m b.entries i Taken next.takes.entry next.takes.next.entry
              (ap is_expanded next.takes.next.is_open),
        ));
    entered = ledger.entered ∙ sym same_length;
    met = ledger.met ∙ sym kept.3;
  })

  -- where it is refused for want of room, the layer is cut there
  pub cut_of_full : (after : Contents X S) → after ≡ mid
      → IsFullFor (CountsAsOne (rules mid.machine) mid.merge) mid x.successors → IsCutIn rules after d i
  cut_of_full after err full =
      let deep : ¬ (m.steps entry.0.state < d) = λ less.
      let done = next.layer.through.done i next.takes.entry next.takes.next.entry (omega (arith, same_steps)) in
      cc (done, next.takes.next.is_open) in
      let cut : IsCutAt m (CountsAsOne (rules b.machine) b.merge) right mid d i = record {
        no_room = record {
          entry = entry.0;
          at = entry.1;
          taken = entry.2;
          successors = x.successors;
          expansion = expansion;
          full = rw (kept.0, kept.2) at full;
        };
        layer = omega (arith, bounded);
        through = through_grows m d b.entries mid.entries next.layer.through
            (rw next.takes.after (taken_grows m b.entries i next.takes.entry next.takes.next));
      } in
      rw err (subst (λ (q : Contents X S). IsCutAt (machine_in rules q) (CountsAsOne (rules q.machine) q.merge)
      (right_in rules q) mid d i) (sym next.same) cut)

  fresh_taken : IsFresh m.steps mid.entries (d + 1)
  fresh_taken =
      rw next.takes.after (each-with_mark (λ j f. m.steps f.state ≡ d + 1 → f.mark ≢ Expanded) b.entries i Taken
      (λ e at deep. not_expanded Taken refl) (λ j e at apart. next.layer.fresh j e at))

  module _ {new : Contents X S} {entered met : ℕ}
      (enters : Enters (CountsAsOne (rules mid.machine) mid.merge) mid new i x entered met) where
    enters_in : Enters (CountsAsOne (rules b.machine) b.merge) mid new i x entered met
    enters_in =
        subst (λ (q : Contents X S). Enters (CountsAsOne (rules q.machine) q.merge) mid new i x entered met) next.same
        enters

    entries_in : new.entries ≡ with_successors same mid.entries i x.successors
    entries_in = entered_by_test next.test law expansion refl enters_in

    advanced : IsAdvance m.steps b.entries new.entries
    advanced =
        advances m same right next.machine next.test.1 b.entries mid.entries new.entries i next.state entry.0
        x.successors next.takes law.law entry.1 entry.2 expansion entries_in next.layer.none_taken

    -- one more entry is expanded, and the layer is still the one in work
    pub one_more : count_by (λ (r : Entry S). is_expanded r.mark) new.entries
        ≡ count_by (λ (r : Entry S). is_expanded r.mark) b.entries + 1
    one_more = advanced.more

    pub in_layer : IsInLayer m.steps new.entries d
    in_layer = record {
      none_taken = advanced.none_taken;
      through = through_grows m d b.entries new.entries next.layer.through advanced.grows;
      fresh = rw entries_in
          (fresh_entered next.machine next.test.1 law.law i entry.1 entry.2 expansion d bounded fresh_taken);
      shallow = rw entries_in (shallow_entered next.machine next.test.1 law.law i entry.1 entry.2 expansion d bounded);
    }

    -- the share has room for the steps, and counts them
    pub ledger_of_entered : (old share : Share) → IsLedgerOf b old
        → (old.expanded + 1 < 2 ^ 64 → old.entered + entered < 2 ^ 64 → old.met + met < 2 ^ 64
        → share ≡ record { expanded = old.expanded + 1; entered = old.entered + entered; met = old.met + met })
        → IsLedgerOf new share
    ledger_of_entered old share ledger adds =
        let few = count_by-le-length (λ (r : Entry S). is_expanded r.mark) b.entries in
        let fresh = count_by_test next.test law expansion refl enters_in in
        let small =
        met_fits m same right next.machine next.test.1 mid law i entry.0 entry.1 entry.2 x.successors expansion met
        (omega (arith, enters.each)) in
        rw (adds (omega (arith, ledger.expanded, few, same_length, law.limit))
        (omega (arith, ledger.entered, same_length, law.limit, enters.room)) (omega (arith, ledger.met, kept.3, small)))
        (record {
          expanded = omega (arith, ledger.expanded, one_more);
          entered = rw entries_in (simp (length-append, length-map, length-with_mark)
              (omega (arith, ledger.entered, same_length, fresh)));
          met = omega (arith, ledger.met, enters.met_in_all, kept.3);
        })
