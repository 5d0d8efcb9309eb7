-- States that count as one: they have the same findings and labels, and so have their steps.
use Rattle.std.proofs.Common.{◌≡◌, ℕ, ◌++◌, ◌∷◌, [], ◌∙◌, List, Option, Some, None, ap, arith, refl, sym}
use Rattle.tree_machine.specs.Alike.{AreStatesAlike}
use Rattle.tree_machine.specs.Flat.{number_code}
use Rattle.tree_machine.specs.FormCode.{content_code, named_code, state_code}
use Rattle.tree_machine.specs.InRange.{AreNumbersInRange}
use Rattle.tree_machine.specs.Rules.{Rules, AreLawful, AreFormsExact}
use Rattle.tree_machine.specs.Step.{step, Fits}
use Rattle.tree_machine.specs.declared.state.State.{State}
use Rattle.tree_machine.proofs.Alike.{alike_step, alike_history, alike_ordered}
use Rattle.tree_machine.proofs.Forms.{forms_alike, alike_turned, numbers_fit}
use Rattle.tree_machine.proofs.States.{step_fits}
use Rattle.sched_program.specs.Program.{Program}
use Rattle.options.specs.declared.options.Merge.{Merge}
use Rattle.options.specs.declared.options.Merge.TheVariants.{Exact, Names}
use Rattle.book.specs.Entries.{Finding, Successor}
use Rattle.replay.specs.declared.finding.Finding.TheVariants as found
use Rattle.book.specs.Books.{CountsAsOne}
use Rattle.book.specs.Decoding.{StandsIn}
use Rattle.book.specs.Expanding.{Puts, PutsStep}
use Rattle.replay.specs.Findings.{machine_of, IsFindingOf}
use Rattle.book.specs.Labels.{label_by}

module _ {Machine Memory Place Form : Type 0} (rules : Rules Memory Place) (program : Program)
    (form_of : Memory → List (Option Place) → Form) (lawful : AreLawful rules) (forms : AreFormsExact rules form_of)
  where
    -- what is found of a state is found of one that counts as one: the same fault, or the same linearization
    pub one_found : (merge : Merge) (r s : State Machine Memory Place Form) → Fits rules program r
        → Fits rules program s → CountsAsOne rules merge r s → (finding : Finding)
        → IsFindingOf rules program r finding → IsFindingOf rules program s finding
    one_found Exact r s r_fits s_fits one finding is = rw (← one) is
    one_found Names r s r_fits s_fits alike found.Astray is = rw (← alike.astray) is
    one_found Names r s r_fits s_fits alike found.Order is = (
      sym alike.astray ∙ is.0,
      λ ordered. is.1
          (alike_ordered rules s r lawful (alike_turned rules form_of forms program r s r_fits s_fits alike) ordered),
    )
    one_found Names r s r_fits s_fits alike found.History is =
        rw (← alike.astray, ← alike_history rules r s alike) (is.0, alike_ordered rules r s lawful alike is.1, is.2)
    one_found Names r s r_fits s_fits alike (found.Sound order) is =
        rw (← alike.astray, ← alike_history rules r s alike) (is.0, alike_ordered rules r s lawful alike is.1, is.2)

    -- counting as one goes both ways
    pub one_turned : (merge : Merge) (r s : State Machine Memory Place Form) → Fits rules program r
        → Fits rules program s → CountsAsOne rules merge r s → CountsAsOne rules merge s r
    one_turned Exact r s r_fits s_fits one = sym one
    one_turned Names r s r_fits s_fits one = alike_turned rules form_of forms program r s r_fits s_fits one

    -- each step of one is a step of the other, to states that count as one
    pub one_step : (merge : Merge) (r s u : State Machine Memory Place Form) (t : ℕ) → CountsAsOne rules merge r s
        → step rules program r t ≡ Some u
        → (v : State Machine Memory Place Form) × (step rules program s t ≡ Some v) × CountsAsOne rules merge u v
    one_step Exact r s u t one leads = (u, rw one at leads, refl)
    one_step Names r s u t one leads = alike_step rules r s lawful one program t u leads

    one_label : (own_code : Memory → List (Option Place) → List ℕ) (form_code : Form → List ℕ) (merge : Merge)
        (r s : State Machine Memory Place Form) → Fits rules program r → Fits rules program s
        → CountsAsOne rules merge r s
        → label_by own_code form_code form_of merge r ≡ label_by own_code form_code form_of merge s
    one_label own_code form_code Exact r s r_fits s_fits one = ap (state_code own_code) one
    one_label own_code form_code Names r s r_fits s_fits one =
        ap (λ f. number_code 0 ++ content_code form_code f)
        ((forms_alike rules form_of forms program program r s r_fits s_fits).1 one)

    -- the state c stands in for s: the step of a thread of c is appended as that of s
    module _ (merge : Merge) (s c : State Machine Memory Place Form) (t : ℕ) (s_fits : Fits rules program s)
        (c_fits : Fits rules program c) (one : CountsAsOne rules merge s c) where
      pub puts_twin : (n : State Machine Memory Place Form) → step rules program c t ≡ Some n
          → (own_code : Memory → List (Option Place) → List ℕ) (form_code : Form → List ℕ)
          (old new : List (Successor (List ℕ))) (x : Successor (List ℕ)) → new ≡ old ++ x ∷ [] → x.thread ≡ t
          → x.state ≡ label_by own_code form_code form_of merge n → Fits rules program n
          → IsFindingOf rules program n x.finding
          → PutsStep (machine_of rules program) (IsFindingOf rules program)
          (label_by own_code form_code form_of merge) s t old new
      puts_twin n leads own_code form_code old new x pushed is_thread label n_fits is =
          let u = one_step merge c s n t (one_turned merge s c s_fits c_fits one) leads in
          let u_fits = step_fits rules program s s_fits lawful t u.0 u.1 in
          rw u.1 (
            x,
            pushed,
            is_thread,
            label ∙ one_label own_code form_code merge n u.0 n_fits u_fits u.2,
            one_found merge n u.0 n_fits u_fits u.2 x.finding is,
            u_fits,
          )

      -- where c has no step, s has none
      pub puts_none : (label_of : State Machine Memory Place Form → List ℕ)
          (old new : List (Successor (List ℕ))) → step rules program c t ≡ None
          → new ≡ old → PutsStep (machine_of rules program) (IsFindingOf rules program) label_of s t old new
      puts_none label_of old new none same = by (step rules program s t) refl
        where
          by : (o : Option (State Machine Memory Place Form)) → step rules program s t ≡ o
              → Puts (machine_of rules program) (IsFindingOf rules program) label_of t old new o
          by None is = same
          by (Some u) is = cc (none, (one_step merge s c u t one is).1)

-- what is read from a label counts as one with each state that has it
pub read_stands : {Machine Memory Place Form : Type 0} (rules : Rules Memory Place) (program : Program)
    (own_code : Memory → List (Option Place) → List ℕ) (form_code : Form → List ℕ)
    (form_of : Memory → List (Option Place) → Form) (code : List ℕ) (c : State Machine Memory Place Form)
    → ((s : State Machine Memory Place Form) → code ≡ state_code own_code s → c ≡ s)
    → ((s : State Machine Memory Place Form) → AreNumbersInRange rules s → code ≡ named_code form_code form_of s
    → AreStatesAlike rules s c × ((p : Program) → Fits rules p s → Fits rules p c) × (c.steps ≡ 0))
    → (label : List ℕ) → label ≡ code → (merge : Merge) (s : State Machine Memory Place Form) → Fits rules program s
    → label_by own_code form_code form_of merge s ≡ label → StandsIn rules program merge s c
read_stands rules program own_code form_code form_of code c whole named label written Exact s fits is =
    rw (whole s (sym (is ∙ written))) (record { counts = refl; fits = fits; steps = omega arith })
read_stands rules program own_code form_code form_of code c whole named label written Names s fits is =
    let law = named s (numbers_fit rules program s fits) (sym (is ∙ written)) in
    record { counts = law.0; fits = law.1 program fits; steps = omega (arith, law.2) }
