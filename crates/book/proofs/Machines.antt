-- States of a machine that runs a program are known by their labels.
use Rattle.std.proofs.Common.{◌≡◌, ℕ, ◌≤◌, true, Option, Some, None, List, [], ◌∷◌, ◌++◌, ◌∙◌, subst}
use Rattle.std.specs.Cmp.{IsEquivalence}
use Rattle.std.specs.Cmp.Lexicographic.{lists_equiv}
use Rattle.std.proofs.lemmas.List.{append_cancel_left}
use Rattle.sched_program.specs.Laws.Exact.{nat_exact, list_exact}
use Rattle.sched_program.specs.Program.{Program, IsWithinLimits}
use Rattle.tree_machine.specs.Rules.{Rules, AreLawful, AreFormsExact}
use Rattle.tree_machine.specs.Alike.{FormContent}
use Rattle.tree_machine.specs.Flat.{number_code}
use Rattle.tree_machine.specs.FormCode.{IsInjective, content_code, state_code}
use Rattle.tree_machine.specs.Laws.CellOrder.{nat_equivalence}
use Rattle.tree_machine.specs.Laws.FormCode.{content_readable}
use Rattle.tree_machine.specs.Step.{start}
use Rattle.tree_machine.specs.declared.state.State.{State}
use Rattle.tree_machine.proofs.Forms.{forms_alike}
use Rattle.replay.specs.Laws.Machines.{is_machine}
use Rattle.options.specs.declared.options.Merge.{Merge}
use Rattle.options.specs.declared.options.Merge.TheVariants.{Exact, Names}
use Rattle.book.specs.Entries.{Open, Finding, contents_of}
use Rattle.replay.specs.Schedule.{StepMachine, AreOneBy, IsMachine, Merges}
use Rattle.replay.specs.Findings.{machine_of, IsFindingOf}
use Rattle.book.specs.Labels.{label_by, same_as, same_label}
use Rattle.book.specs.Books.{CountsAsOne, IsBook}
use Rattle.book.proofs.Agreeing.{Agree}
use Rattle.book.proofs.LawfulBooks.{opened_book}
use Rattle.book.proofs.StandingIn.{one_found, one_step, one_turned}

module _ {Machine Memory Place Form : Type 0} (rules : Machine → Rules Memory Place)
    (form_of : Machine → Memory → List (Option Place) → Form)
    (own_code : Memory → List (Option Place) → List ℕ) (form_code : Form → List ℕ)
    (wholly : IsInjective (state_code {Machine = Machine} {Form = Form} own_code)) (by_form : IsInjective form_code)
    (machine : Machine) (program : Program) (lawful : AreLawful (rules machine))
    (forms : AreFormsExact (rules machine) (form_of machine)) (limits : IsWithinLimits program) where
  abbrev S : Type 0
  S = State Machine Memory Place Form

  abbrev m : StepMachine S
  m = machine_of (rules machine) program

  abbrev label : Merge → S → List ℕ
  label = label_by own_code form_code (form_of machine)

  keeps : IsMachine m
  keeps = is_machine (rules machine) program lawful limits

  -- labels are the same where they are equal
  labels : IsEquivalence same_label
  labels = lists_equiv nat_equivalence

  equal_labels : (merge : Merge) (r s : S) → same_as (label merge) r s ≡ true → label merge r ≡ label merge s
  equal_labels merge r s same = list_exact nat_exact (label merge r) (label merge s) same

  -- states of the program have the same label exactly where they are equal, or alike
  counts_by : (merge : Merge) → Agree m (AreOneBy (same_as (label merge))) (CountsAsOne (rules machine) merge)
  counts_by Exact r s r_fits s_fits = (
    λ same. wholly r s (equal_labels Exact r s same),
    λ e. rw (← e) (labels.refl (label Exact r)),
  )
  counts_by Names r s r_fits s_fits =
      let alike = forms_alike (rules machine) (form_of machine) forms program program r s r_fits s_fits in (
        λ same. alike.0 (content_readable form_code by_form _ _
            (append_cancel_left (number_code 0) _ _ (equal_labels Names r s same))),
        λ are. subst (λ (f : FormContent Form).
            same_label (label Names r) (number_code 0 ++ content_code form_code f) ≡ true) (alike.1 are)
            (labels.refl (label Names r)),
      )

  steps_by : (merge : Merge) (r s u : S) (t : ℕ) → m.Fits r → m.Fits s → same_as (label merge) r s ≡ true
      → m.step s t ≡ Some u → (v : S) × (m.step r t ≡ Some v) × (same_as (label merge) v u ≡ true)
  steps_by merge r s u t r_fits s_fits same leads =
      let turned = one_turned (rules machine) program (form_of machine) lawful forms merge in
      let one = turned r s r_fits s_fits ((counts_by merge r s r_fits s_fits).0 same) in
      let v = one_step (rules machine) program (form_of machine) lawful forms merge s r u t one leads in
      let u_fits = keeps.step_fits s u t s_fits leads in
      let v_fits = keeps.step_fits r v.0 t r_fits v.1 in
      (v.0, v.1, (counts_by merge v.0 u v_fits u_fits).1 (turned u v.0 u_fits v_fits v.2))

  merges_by : (merge : Merge) → Merges m (same_as (label merge))
  merges_by merge = record {
    itself = (λ s. labels.refl (label merge s));
    turned = (λ r s h. labels.symm (label merge s) (label merge r) ∙ h);
    joined = (λ r s u h k. labels.congr (label merge r) (label merge s) (label merge u) h ∙ k);
    steps_alike = steps_by merge;
  }

  -- the book with the start alone
  pub first_book : (merge : Merge) (limit : ℕ) (state : S) (finding : Finding) → state ≡ start (rules machine) program
      → m.Fits state → IsFindingOf (rules machine) program state finding → 1 ≤ limit → limit ≤ 2000000
      → IsBook rules (label merge) (contents_of machine program merge limit
      (record { state = state; finding = finding; origin = None; mark = Open } ∷ []) 0)
  first_book merge limit state finding starts fits right some bounded = record {
    law = opened_book m (same_as (label merge)) (IsFindingOf (rules machine) program) keeps (merges_by merge) machine
        program merge limit state finding starts right fits some bounded;
    limits = limits;
    machine = keeps;
    merges = merges_by merge;
    findings = (λ r s r_fits s_fits same. one_found (rules machine) program (form_of machine) lawful forms merge r s
        r_fits s_fits ((counts_by merge r s r_fits s_fits).0 same));
    counts = counts_by merge;
  }
