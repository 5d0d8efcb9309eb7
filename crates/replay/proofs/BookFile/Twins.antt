-- States that stand in for those that lines tell: their steps are amiss, shown and labelled as those of these.
use Rattle.std.proofs.Common.{◌≡◌, ℕ, inl, inr, Option, None, Some, List, [], ◌∷◌, ◌++◌, refl, sym, ap, ◌∙◌}
use Rattle.std.proofs.Common.{arith, length, slice_get, ◌+◌}
use Rattle.sched_program.specs.Program.{Program, IsWithinLimits}
use Rattle.sched_program.specs.declared.operation.OpId.{OpId}
use Rattle.tree_machine.specs.Alike.{AreStatesAlike}
use Rattle.tree_machine.specs.Flat.{number_code}
use Rattle.tree_machine.specs.FormCode.{content_code, cut_code, state_code}
use Rattle.tree_machine.specs.InRange.{AreNumbersInRange}
use Rattle.tree_machine.specs.Offsets.{AreOffsetsOf}
use Rattle.tree_machine.specs.Rules.{Rules, AreLawful, AreFormsExact}
use Rattle.tree_machine.specs.Step.{step, Fits}
use Rattle.tree_machine.specs.declared.code_offsets.CodeOffsets.{CodeOffsets}
use Rattle.tree_machine.specs.declared.front.Front.{Front}
use Rattle.tree_machine.specs.declared.state.State.{State}
use Rattle.tree_machine.proofs.Alike.{alike_step, alike_history, alike_ordered}
use Rattle.tree_machine.proofs.Forms.{forms_alike, alike_itself, alike_turned, numbers_fit}
use Rattle.tree_machine.proofs.Lists.{get-append_left, get-map}
use Rattle.tree_machine.proofs.States.{step_fits}
use Rattle.replay.specs.declared.file.fault.CheckFault.{CheckFault}
use Rattle.replay.specs.declared.file.fault.CheckFault.TheVariants.{Step}
use Rattle.replay.specs.declared.file.line.BookLine.{BookLine}
use Rattle.replay.specs.declared.file.replayer.Source.{Source}
use Rattle.replay.specs.BookFile.Kept.{AreLabelsOf, HasCode, IsSource, IsSourceAt, StandsForEntry}
use Rattle.replay.specs.BookFile.Replays.{AreReplayed, IsAmiss, IsShown, IsUnshown, IsWell, Reaches, Tells}
use Rattle.replay.specs.Findings.{machine_of}
use Rattle.replay.specs.Labels.{named_by}
use Rattle.replay.specs.Schedule.{after}
use Rattle.replay.proofs.BookFile.Exclusive.{one_replayed}
use Rattle.replay.proofs.BookFile.Replayed.{each_fits, steps_bounded}

-- the label that a state was decoded from is the state's code
pub source_offsets : {Machine Memory Place Form : Type 0} (front_code : Front → Memory → List ℕ)
    (behind_code : Front → Memory → List (Option Place) → List ℕ) (labels : List (List ℕ)) (source : Option Source)
    (state : State Machine Memory Place Form) (label : List ℕ) (offsets : CodeOffsets)
    → IsSource front_code behind_code labels source state → HasCode labels source label offsets
    → AreOffsetsOf front_code behind_code label offsets state
source_offsets front_code behind_code labels None state label offsets from has = absurd has
source_offsets front_code behind_code labels (Some source) state label offsets from has =
    let same : from.0 ≡ label = cc (from.1, has.0) in rw (← same, has.1) from.2

-- it still is once there is one more label
pub source_pushed : {Machine Memory Place Form : Type 0} (front_code : Front → Memory → List ℕ)
    (behind_code : Front → Memory → List (Option Place) → List ℕ) (labels : List (List ℕ)) (label : List ℕ)
    (source : Option Source) (state : State Machine Memory Place Form)
    → IsSource front_code behind_code labels source state
    → IsSource front_code behind_code (labels ++ label ∷ []) source state
source_pushed front_code behind_code labels label None state from = tt
source_pushed front_code behind_code labels label (Some source) state from =
    (from.0, get-append_left labels (label ∷ []) source.index from.0 from.1, from.2)

-- a state that is alike to one that is well is well too
pub well_there : {Machine Memory Place Form : Type 0} {rules : Rules Memory Place} → AreLawful rules
    → (program : Program) {s c : State Machine Memory Place Form} → AreStatesAlike rules s c
    → IsWell rules program s → IsWell rules program c
well_there {rules} lawful program {s} {c} alike well =
    (sym alike.astray ∙ well.0, alike_ordered rules s c lawful alike well.1)

-- and an order that shows the one shows the other
pub shown_there : {Machine Memory Place Form : Type 0} {rules : Rules Memory Place} → AreLawful rules
    → (program : Program) {s c : State Machine Memory Place Form} → AreStatesAlike rules s c → (order : List OpId)
    → IsShown rules program s order → IsShown rules program c order
shown_there {rules} lawful program {s} {c} alike order shown =
    (well_there lawful program alike shown.0, rw (← alike_history rules s c alike) shown.1)

module _ {Machine Memory Place Form : Type 0} {rules : Rules Memory Place} {program : Program}
    (lawful : AreLawful rules) {form_of : Memory → List (Option Place) → Form}
    (forms : AreFormsExact rules form_of) where
  module _ {s c : State Machine Memory Place Form} (s_fits : Fits rules program s) (c_fits : Fits rules program c)
      (alike : AreStatesAlike rules s c) where
    pub turned : AreStatesAlike rules c s
    turned = alike_turned rules form_of forms program s c s_fits c_fits alike

    -- alike states have one label
    pub one_label : (code : Form → List ℕ) → named_by code form_of s ≡ named_by code form_of c
    one_label code = ap (λ f. number_code 0 ++ content_code code f)
        ((forms_alike rules form_of forms program program s c s_fits c_fits).1 alike)

    -- a step of the one is a step of the other
    pub step_there : (t : ℕ) (n : State Machine Memory Place Form) → step rules program c t ≡ Some n
        → (u : State Machine Memory Place Form) × (step rules program s t ≡ Some u) × Fits rules program u
        × Fits rules program n × AreStatesAlike rules n u
    step_there t n leads =
        let w = alike_step rules c s lawful turned program t n leads in (
          w.0,
          w.1,
          step_fits rules program s s_fits lawful t w.0 w.1,
          step_fits rules program c c_fits lawful t n leads,
          w.2,
        )

    pub stuck_there : (t : ℕ) → step rules program c t ≡ None → step rules program s t ≡ None
    stuck_there t none = by (step rules program s t) refl
      where
        by : (o : Option (State Machine Memory Place Form)) → step rules program s t ≡ o → o ≡ None
        by None is = refl
        by (Some u) is = cc (none, (alike_step rules s c lawful alike program t u is).1)

    -- what an order leaves amiss is the same
    pub unshown_there : (order : List OpId) (number : ℕ) (fault : CheckFault)
        → IsUnshown rules program s order number fault → IsUnshown rules program c order number fault
    unshown_there order number fault (inl h) = inl (h.0, λ well. h.1 (well_there lawful program turned well))
    unshown_there order number fault (inr h) =
        inr (h.0, well_there lawful program alike h.1, λ explains. h.2 (rw (alike_history rules s c alike) explains))

  -- the label that a state was decoded from is that of some state
  pub label_of_source : IsWithinLimits program → (lines : List BookLine) (code : Form → List ℕ)
      {labels : List (List ℕ)} → AreLabelsOf {Machine = Machine} rules program (named_by code form_of) lines labels
      → (source : Option Source) (label : List ℕ) (offsets : CodeOffsets) → HasCode labels source label offsets
      → (s : State Machine Memory Place Form) × AreNumbersInRange rules s × (label ≡ named_by code form_of s)
  label_of_source limits lines code kept None label offsets has = absurd has
  label_of_source limits lines code kept (Some source) label offsets has =
      let w = get-map (named_by code form_of) kept.states source.index label (rw (← kept.labelled) has.0) in (
        w.0,
        numbers_fit rules program w.0 (each_fits lawful limits lines kept.states kept.replayed source.index w.0 w.1),
        w.2,
      )

  module _ (limits : IsWithinLimits program) (lines : List BookLine) (index : ℕ) where
    -- what is read from the label of an entry stands in for its state
    pub read_stands_for : (code : Form → List ℕ) {labels : List (List ℕ)}
        → AreLabelsOf {Machine = Machine} rules program (named_by code form_of) lines labels
        → (label : List ℕ) (twin : State Machine Memory Place Form) → slice_get labels index ≡ Some label
        → ((s : State Machine Memory Place Form) → AreNumbersInRange rules s → label ≡ named_by code form_of s
        → AreStatesAlike rules s twin × ((p : Program) → Fits rules p s → Fits rules p twin) × (twin.steps ≡ 0))
        → StandsForEntry rules program lines index twin
    read_stands_for code kept label twin at named states so =
        let same = one_replayed Machine Form rules program lines states kept.states so kept.replayed in
        let w = get-map (named_by code form_of) states index label (rw (same, ← kept.labelled) at) in
        let fits : Fits rules program w.0 = each_fits lawful limits lines states so index w.0 w.1 in
        let law = named w.0 (numbers_fit rules program w.0 fits) w.2 in (
          w.0,
          w.1,
          record { alike = law.0; fits = law.1 program fits; steps = (let none = law.2 in omega (arith, none)) },
        )

    -- what was decoded from it stands in for the entry's state
    pub source_stands_for : (code : Form → List ℕ) {labels : List (List ℕ)}
        → AreLabelsOf {Machine = Machine} rules program (named_by code form_of) lines labels
        → (front_code : Front → Memory → List ℕ) (behind_code : Front → Memory → List (Option Place) → List ℕ)
        (source : Option Source) (twin : State Machine Memory Place Form)
        → IsSource front_code behind_code labels source twin → IsSourceAt index source
        → ((front : Front) (s : State Machine Memory Place Form) → AreNumbersInRange rules s
        → state_code (cut_code front_code behind_code front) twin ≡ named_by code form_of s
        → AreStatesAlike rules s twin × ((p : Program) → Fits rules p s → Fits rules p twin) × (twin.steps ≡ 0))
        → StandsForEntry rules program lines index twin
    source_stands_for code kept front_code behind_code None twin from at named = absurd at
    source_stands_for code kept front_code behind_code (Some source) twin from at named =
        read_stands_for code kept from.0 twin (rw (← at) from.1)
        (λ s within is. named source.offsets.front s within (sym from.2.written ∙ is))

    -- and so does what the way to the entry leads to
    pub run_stands_for : (way : List ℕ) (end : State Machine Memory Place Form)
        → ((states : List (State Machine Memory Place Form)) → AreReplayed rules program lines states
        → (s : State Machine Memory Place Form) × (slice_get states index ≡ Some s)
        × (after (machine_of rules program) way ≡ Some s))
        → after (machine_of rules program) way ≡ Some end → Fits rules program end
        → StandsForEntry rules program lines index end
    run_stands_for way end leads ends fits states so =
        let w = leads states so in
        let is_end : slice_get states index ≡ Some end = cc (w.1, w.2) in (
          end,
          is_end,
          record {
            alike = alike_itself rules form_of forms program end fits;
            fits = fits;
            steps = steps_bounded lawful limits lines states so index end is_end;
          },
        )

-- what a step that is made in place of a parent's own says of its line
module _ {Machine Memory Place Form : Type 0} {rules : Rules Memory Place} {program : Program}
    (lawful : AreLawful rules) (limits : IsWithinLimits program) {form_of : Memory → List (Option Place) → Form}
    (forms : AreFormsExact rules form_of) (lines : List BookLine) (line : BookLine)
    (c : State Machine Memory Place Form) (stands : StandsForEntry rules program lines line.parent c)
    (states : List (State Machine Memory Place Form)) (so : AreReplayed rules program lines states) where
  -- the thread has no step
  pub no_step : {count : ℕ} → count ≡ length states → step rules program c line.thread ≡ None
      → IsAmiss rules program states line (Step (count + 2))
  no_step counted none =
      let w = stands states so in
      let fits = each_fits lawful limits lines states so line.parent w.0 w.1 in
      inr (inl (rw counted, (w.0, w.1, stuck_there lawful forms fits w.2.fits w.2.alike line.thread none)))

  module _ (n : State Machine Memory Place Form) (leads : step rules program c line.thread ≡ Some n) where
    there : (u : State Machine Memory Place Form) × Reaches rules program states line u × Fits rules program u
        × Fits rules program n × AreStatesAlike rules n u
    there =
        let w = stands states so in
        let fits = each_fits lawful limits lines states so line.parent w.0 w.1 in
        let u = step_there lawful forms fits w.2.fits w.2.alike line.thread n leads in
        (u.0, record { parent = w.0; at = w.1; step = u.1 }, u.2, u.3, u.4)

    -- the order shows the state that the line reaches
    pub step_passes : (code : Form → List ℕ) (label : List ℕ) → label ≡ named_by code form_of n
        → IsShown rules program n line.order
        → (u : State Machine Memory Place Form) × Tells rules program states line u × (label ≡ named_by code form_of u)
    step_passes code label labelled shown = (
      there.0,
      (there.1, shown_there lawful program there.4 line.order shown),
      labelled ∙ one_label lawful forms there.3 there.2 there.4 code,
    )

    -- or does not
    pub step_amiss : {count : ℕ} → count ≡ length states → (fault : CheckFault)
        → IsUnshown rules program n line.order (count + 2) fault → IsAmiss rules program states line fault
    step_amiss {count} counted fault unshown =
        inr (inr (
          there.0,
          there.1,
          rw (← counted) (unshown_there lawful forms there.3 there.2 there.4 line.order
              (count + 2) fault unshown),
        ))
