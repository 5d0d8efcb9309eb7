-- What labels tell of alike states.
use Rattle.std.proofs.Common.{◌≡◌, ℕ, suc, ◌+◌, ◌<◌, Bool, true, inl, inr, Some, Option, List, [], ◌∷◌, ◌++◌, length}
use Rattle.std.proofs.Common.{Contains, refl, arith, slice_get, slice_set}
use borrow.Author.Count.{below_more}
use Rattle.std.proofs.lemmas.Bool.{cases_eq}
use Rattle.std.proofs.lemmas.List.Elements.{Contains-append_left}
use Rattle.std.proofs.lemmas.Option.{slice_get_within}
use Rattle.lin.proofs.Lists.{Contains-slice_get, slice_get-Contains}
use Rattle.sched_program.specs.Program.{Program, IsWithinLimits}
use Rattle.tree_machine.specs.Rules.{Rules, AreLawful, AreFormsExact}
use Rattle.tree_machine.specs.Alike.{AreStatesAlike, state_form}
use Rattle.tree_machine.specs.FormCode.{IsInjective, content_code}
use Rattle.tree_machine.specs.Laws.Flat.{number_split}
use Rattle.tree_machine.specs.Laws.FormCode.{content_readable}
use Rattle.tree_machine.specs.Step.{start, step, Fits}
use Rattle.tree_machine.specs.declared.state.State.{State}
use Rattle.tree_machine.proofs.Alike.{alike_step}
use Rattle.tree_machine.proofs.Forms.{forms_alike}
use Rattle.tree_machine.proofs.Lists.{get-map, get-set_other, map-get}
use Rattle.replay.specs.Closed.{IsAlikeToOneOf}
use Rattle.replay.specs.Labels.{named_by}
use Rattle.replay.specs.BookFile.Checks.{AreRefused, Pass}
use Rattle.replay.specs.BookFile.Kept.{AreLabelsOf, AreStepsKnown, IsEntryClosed, IsStepUnknown, StandsFor}
use Rattle.replay.specs.BookFile.Kept.{StandsForEntry}
use Rattle.replay.specs.BookFile.Replays.{AreReplayed}
use Rattle.replay.specs.declared.file.fault.CheckFault.TheVariants.{Open}
use Rattle.replay.specs.declared.file.line.BookLine.{BookLine}
use Rattle.replay.proofs.BookFile.Recalled.{told_by}
use Rattle.replay.proofs.BookFile.Replayed.{begins, each_fits, first_described, machine, same_count}
use Rattle.replay.proofs.BookFile.Twins.{one_label, step_there, turned}

-- the steps of the first entries' states have labels that are known
abbrev pub AreKnownBelow : {Machine Memory Place Form : Type 0} (rules : Rules Memory Place) (program : Program)
    (label_of : State Machine Memory Place Form → List ℕ) (lines : List BookLine) (labels : List (List ℕ)) → ℕ → Type 0
AreKnownBelow {Machine} {Memory} {Place} {Form} rules program label_of lines labels n =
    (states : List (State Machine Memory Place Form)) → AreReplayed rules program lines states → (i : ℕ) → i < n
    → (s : State Machine Memory Place Form) → slice_get states i ≡ Some s
    → AreStepsKnown rules program label_of labels s

-- the label of a thread's step is known
abbrev pub IsStepKnown : {Machine Memory Place Form : Type 0} (rules : Rules Memory Place) (program : Program)
    (label_of : State Machine Memory Place Form → List ℕ) (labels : List (List ℕ))
    (s : State Machine Memory Place Form) → ℕ → Type 0
IsStepKnown {Machine} {Memory} {Place} {Form} rules program label_of labels s t =
    (next : State Machine Memory Place Form) → step rules program s t ≡ Some next → Contains labels (label_of next)

-- one more line leaves the entries closed that were
pub still_closed : {Machine Memory Place Form : Type 0} (rules : Rules Memory Place) (program : Program)
    (label_of : State Machine Memory Place Form → List ℕ) (lines : List BookLine) (line : BookLine)
    (labels : List (List ℕ)) (label : List ℕ) (i : ℕ) → IsEntryClosed rules program label_of lines labels i
    → IsEntryClosed rules program label_of (lines ++ line ∷ []) (labels ++ label ∷ []) i
still_closed rules program label_of lines line labels label i closed states so =
    let (earlier, described, stays) = first_described rules program (start rules program ∷ []) lines line states so.1 in
    let (s, at, known) = closed earlier (so.0, described) in
    (s, stays i s at, λ t next leads. Contains-append_left labels (label ∷ []) (label_of next) (known t next leads))

-- one more mark, of an entry of which it holds
pub mark_set : (P : ℕ → Type 0) (marks : List Bool) (k : ℕ) → ((i : ℕ) → slice_get marks i ≡ Some true → P i) → P k
    → (i : ℕ) → slice_get (slice_set marks k true) i ≡ Some true → P i
mark_set P marks k marked here i at =
    elim (cases_eq i k) [
      | inl same ↦ rw same here
      | inr other ↦ marked i (rw (← get-set_other marks k i true other) at)
    ]

module _ {Machine Memory Place Form : Type 0} {rules : Rules Memory Place} {program : Program}
    (lawful : AreLawful rules) (limits : IsWithinLimits program) {form_of : Memory → List (Option Place) → Form}
    (forms : AreFormsExact rules form_of) (code : Form → List ℕ) where
  abbrev label : State Machine Memory Place Form → List ℕ
  label = named_by code form_of

  -- what is known of the steps of a state that stands in for another one is known of that one's
  twin_known : (labels : List (List ℕ)) {most : ℕ} {s c : State Machine Memory Place Form} → Fits rules program s
      → StandsFor rules program most s c → AreStepsKnown rules program label labels c
      → AreStepsKnown rules program label labels s
  twin_known labels {most} {s} {c} fits stands known t u leads =
      let w = alike_step rules s c lawful stands.alike program t u leads in
      let u_fits = (machine lawful limits).step_fits s u t fits leads in
      let v_fits = (machine lawful limits).step_fits c w.0 t stands.fits w.1 in
      rw (one_label lawful forms u_fits v_fits w.2 code) (known t w.0 w.1)

  -- so that entry is closed
  pub stands_closed : (lines : List BookLine) (labels : List (List ℕ)) (i : ℕ) (c : State Machine Memory Place Form)
      → StandsForEntry rules program lines i c → AreStepsKnown rules program label labels c
      → IsEntryClosed rules program label lines labels i
  stands_closed lines labels i c stands known states replayed =
      let w = stands states replayed in
      let fits = each_fits lawful limits lines states replayed i w.0 w.1 in
      (w.0, w.1, twin_known labels {most = i} fits w.2 known)

  -- .. and the next one too
  pub known_next : (lines : List BookLine) (labels : List (List ℕ)) (i : ℕ)
      → IsEntryClosed {Machine = Machine} rules program label lines labels i
      → AreKnownBelow rules program label lines labels i → AreKnownBelow rules program label lines labels (i + 1)
  known_next lines labels i closed so states replayed =
      below_more (λ j. (r : State Machine Memory Place Form) → slice_get states j ≡ Some r
      → AreStepsKnown rules program label labels r) i (so states replayed) (λ r at.
      let w = closed states replayed in
      let same : r ≡ w.0 = cc (w.1) in
      rw same w.2)

  module _ {lines : List BookLine} {labels : List (List ℕ)} (kept : AreLabelsOf rules program label lines labels) where
    abbrev states : List (State Machine Memory Place Form)
    states = kept.states

    fit : (i : ℕ) (s : State Machine Memory Place Form) → slice_get states i ≡ Some s → Fits rules program s
    fit = each_fits lawful limits lines states kept.replayed

    -- the label of a state that fits is known where one of the states is alike to it
    alike_known : (s : State Machine Memory Place Form) → Fits rules program s
        → IsAlikeToOneOf (AreStatesAlike rules) states s → Contains labels (label s)
    alike_known s fits among =
        Contains-slice_get labels among.0 (label s)
        (rw (kept.labelled, ← one_label lawful forms (fit among.0 among.1 among.2) fits among.3 code)
        (map-get label states among.0 among.1 among.2))

    -- a step that a line has leads to the state of the line's own entry, whose label is known
    pub line_known : (k : ℕ) (line : BookLine) → slice_get lines k ≡ Some line
        → (c : State Machine Memory Place Form) → StandsForEntry rules program lines line.parent c
        → (n : State Machine Memory Place Form) → step rules program c line.thread ≡ Some n
        → Contains labels (label n)
    line_known k line at c stands n leads =
        let w = stands states kept.replayed in
        let (own, there, by) = told_by rules program lines states kept.replayed k line at in
        let u = step_there lawful forms (fit line.parent w.0 w.1) w.2.fits w.2.alike line.thread n leads in
        let same : u.0 ≡ own = cc (u.1, w.1) in
        alike_known n u.3 (suc k, own, there, rw same at (turned lawful forms u.3 u.2 u.4))

    module _ (readable : IsInjective code) where
      -- and only there
      known_alike : (s : State Machine Memory Place Form) → Fits rules program s → Contains labels (label s)
          → IsAlikeToOneOf (AreStatesAlike rules) states s
      known_alike s fits has =
          let w = slice_get-Contains labels (label s) has in
          let r = get-map label states w.0 (label s) (rw (← kept.labelled) w.1) in
          let r_fits = fit w.0 r.0 r.1 in (
            w.0,
            r.0,
            r.1,
            turned lawful forms fits r_fits ((forms_alike rules form_of forms program program s r.0 fits r_fits).0
                (content_readable code readable (state_form form_of s) (state_form form_of r.0)
                (number_split 0 0 (content_code code (state_form form_of s))
                (content_code code (state_form form_of r.0)) r.2).1)),
          )

      -- a step of the next entry's state is not known
      pub open_next : (i : ℕ) (c : State Machine Memory Place Form) → StandsForEntry rules program lines i c
          → IsStepUnknown rules program label labels c → AreKnownBelow rules program label lines labels i
          → AreRefused Machine Form rules program lines (Open (i + 2))
      open_next i c stands out so =
          let w = stands states kept.replayed in
          let u = step_there lawful forms (fit i w.0 w.1) w.2.fits w.2.alike out.0 out.1 out.2 in
          inr (
            states,
            kept.replayed,
            record {
              index = i;
              state = w.0;
              at = w.1;
              stated = refl;
              leads_out = (
                out.0,
                u.0,
                u.1,
                λ among. out.3 (rw (one_label lawful forms u.3 u.2 u.4 code) (alike_known u.0 u.2 among)),
              );
              first = (λ j r below at out_of_r. out_of_r.3 (known_alike out_of_r.1
                  ((machine lawful limits).step_fits r out_of_r.1 out_of_r.0 (fit j r at) out_of_r.2)
                  (so states kept.replayed j below r at out_of_r.0 out_of_r.1 out_of_r.2)));
            },
          )

      pub known_closed : AreKnownBelow rules program label lines labels (length labels)
          → Pass Machine Form rules program lines
      known_closed so = (
        states,
        kept.replayed,
        record {
          fit = fit;
          start = begins lawful limits lines states kept.replayed form_of forms;
          steps = (λ i t s r at leads.
              let less : i < length labels =
              omega (arith, slice_get_within states i s at, same_count kept states kept.replayed) in
              known_alike r ((machine lawful limits).step_fits s r t (fit i s at) leads)
              (so states kept.replayed i less s at t r leads));
        },
      )
