-- States that lines describe, one line after the other.
use Rattle.std.proofs.Common.{◌≡◌, ℕ, ◌+◌, ◌<◌, ◌≤◌, inl, inr, get_or, take, drop, Some, Option}
use Rattle.std.proofs.Common.{List, [], ◌∷◌, ◌++◌, length, refl, sym, ap, ◌∙◌, arith, slice_get}
use Rattle.std.proofs.Math.ListN.{length-map}
use Rattle.std.proofs.lemmas.List.{length_push, length-take-le, map-append, take_more}
use Rattle.std.proofs.lemmas.Option.{slice_get_within}
use Rattle.sched_program.specs.Program.{Program, IsWithinLimits}
use Rattle.tree_machine.specs.Rules.{Rules, AreLawful, AreFormsExact}
use Rattle.tree_machine.specs.Alike.{AreStatesAlike}
use Rattle.tree_machine.specs.Step.{start, Fits}
use Rattle.tree_machine.specs.declared.state.State.{State}
use Rattle.tree_machine.proofs.Forms.{alike_itself}
use Rattle.tree_machine.proofs.Lists.{get-append_cases, get-append_left}
use Rattle.replay.specs.Closed.{IsAlikeToOneOf}
use Rattle.replay.specs.Schedule.{IsMachine}
use Rattle.replay.specs.Findings.{machine_of}
use Rattle.replay.specs.Laws.Machines.{is_machine, step_counts}
use Rattle.replay.specs.declared.file.line.BookLine.{BookLine}
use Rattle.replay.specs.declared.file.fault.CheckFault.{CheckFault}
use Rattle.replay.specs.BookFile.Replays.{IsShown, Reaches, Tells, IsAmiss, Continues, FirstAmiss}
use Rattle.replay.specs.BookFile.Replays.{IsFirstAmiss, AreReplayed}
use Rattle.replay.specs.BookFile.Kept.{AreLabelsOf}
use Rattle.replay.proofs.Text.Cuts.{split_at}

-- the one item after a list, or an item of it
pub last_item_or : {X : Type 0} (P : ℕ → X → Type 0) (xs : List X) (y : X)
    → ((i : ℕ) (x : X) → slice_get xs i ≡ Some x → P i x) → P (length xs) y
    → (i : ℕ) (x : X) → slice_get (xs ++ y ∷ []) i ≡ Some x → P i x
last_item_or P xs y all last i x at =
    elim (get-append_cases xs (y ∷ []) i x at) [
      | inl l ↦ all i x l
      | inr r ↦ (
          let first : r.0 ≡ 0 = omega (arith, slice_get_within (y ∷ []) r.0 x r.2) in
          let place : i ≡ length xs = omega (arith, r.1) in
          let same : x ≡ y = cc (rw first at r.2) in
          rw (place, same) last)
    ]

module _ {Machine Memory Place Form : Type 0} (rules : Rules Memory Place) (program : Program) where
  -- one more line
  continues_push : (before : List (State Machine Memory Place Form)) (lines : List BookLine) (line : BookLine)
      (states : List (State Machine Memory Place Form)) (state : State Machine Memory Place Form)
      → Continues rules program before lines states → Tells rules program states line state
      → Continues rules program before (lines ++ line ∷ []) (states ++ state ∷ [])
  continues_push before [] line states state so tells = (state, rw (← so) tells, λ j. so j ++ state ∷ [])
  continues_push before (first ∷ lines) line states state so tells =
      (so.0, so.1, continues_push (before ++ so.0 ∷ []) lines line states state so.2 tells)

  -- what is amiss with the next line is the first that is
  amiss_next : (before : List (State Machine Memory Place Form)) (lines : List BookLine) (line : BookLine)
      (rest : List BookLine)
      (states : List (State Machine Memory Place Form)) (fault : CheckFault)
      → Continues rules program before lines states → IsAmiss rules program states line fault
      → FirstAmiss rules program before (lines ++ line ∷ rest) fault
  amiss_next before [] line rest states fault so amiss = inl (rw (← so) amiss)
  amiss_next before (first ∷ lines) line rest states fault so amiss =
      inr (so.0, so.1, amiss_next (before ++ so.0 ∷ []) lines line rest states fault so.2 amiss)

  -- what holds of the first states, and of each that a line describes, holds of all
  module _ (P : ℕ → State Machine Memory Place Form → Type 0)
      (next : (before : List (State Machine Memory Place Form)) (line : BookLine)
      (state : State Machine Memory Place Form)
      → ((i : ℕ) (s : State Machine Memory Place Form) → slice_get before i ≡ Some s → P i s)
      → Tells rules program before line state → P (length before) state) where
    along : (before : List (State Machine Memory Place Form)) (lines : List BookLine)
        (states : List (State Machine Memory Place Form)) → Continues rules program before lines states
        → ((i : ℕ) (s : State Machine Memory Place Form) → slice_get before i ≡ Some s → P i s)
        → (i : ℕ) (s : State Machine Memory Place Form) → slice_get states i ≡ Some s → P i s
    along before [] states so all i s at = all i s (rw (← so) at)
    along before (line ∷ lines) states so all i s at =
        along (before ++ so.0 ∷ []) lines states so.2
        (last_item_or P before so.0 all (next before line so.0 all so.1)) i s at

    pub holds_of_each : P 0 (start rules program) → (lines : List BookLine)
        (states : List (State Machine Memory Place Form)) → AreReplayed rules program lines states
        → (i : ℕ) (s : State Machine Memory Place Form) → slice_get states i ≡ Some s → P i s
    holds_of_each first lines states so =
        along (start rules program ∷ []) lines states so.1
        (last_item_or P [] (start rules program) (λ i s at. absurd cc) first)

  -- the first states stay where they are
  pub front : (before : List (State Machine Memory Place Form)) (lines : List BookLine)
      (states : List (State Machine Memory Place Form)) → Continues rules program before lines states
      → (i : ℕ) (s : State Machine Memory Place Form) → slice_get before i ≡ Some s → slice_get states i ≡ Some s
  front before [] states so i s at = rw so at
  front before (line ∷ lines) states so i s at =
      front (before ++ so.0 ∷ []) lines states so.2 i s (get-append_left before (so.0 ∷ []) i s at)

  -- what more lines describe begins with what the first ones do
  pub first_described : (before : List (State Machine Memory Place Form)) (lines : List BookLine) (line : BookLine)
      (states : List (State Machine Memory Place Form)) → Continues rules program before (lines ++ line ∷ []) states
      → (earlier : List (State Machine Memory Place Form)) × Continues rules program before lines earlier
      × ((i : ℕ) (s : State Machine Memory Place Form) → slice_get earlier i ≡ Some s → slice_get states i ≡ Some s)
  first_described before [] line states so = (before, refl, front before (line ∷ []) states so)
  first_described before (first ∷ lines) line states so =
      let (earlier, described, stays) = first_described (before ++ so.0 ∷ []) lines line states so.2 in
      (earlier, (so.0, so.1, described), stays)

  count_from : (before : List (State Machine Memory Place Form)) (lines : List BookLine)
      (states : List (State Machine Memory Place Form)) → Continues rules program before lines states
      → length states ≡ length before + length lines
  count_from before [] states so = omega (arith, ap length so)
  count_from before (line ∷ lines) states so =
      omega (arith, count_from (before ++ so.0 ∷ []) lines states so.2, length_push before so.0)

  -- each line describes one state, and the start is before them
  pub count_states : (lines : List BookLine) (states : List (State Machine Memory Place Form))
      → AreReplayed rules program lines states → length states ≡ length lines + 1
  count_states lines states so = omega (arith, count_from (start rules program ∷ []) lines states so.1)

module _ {Machine Memory Place Form : Type 0} {rules : Rules Memory Place} {program : Program}
    (lawful : AreLawful rules) (limits : IsWithinLimits program) where
  pub machine : IsMachine (machine_of {Machine = Machine} {Form = Form} rules program)
  machine = is_machine rules program lawful limits

  module _ (lines : List BookLine) (states : List (State Machine Memory Place Form))
      (so : AreReplayed rules program lines states) where
    -- each state fits, and has no more steps than its index
    pub each_fits : (i : ℕ) (s : State Machine Memory Place Form) → slice_get states i ≡ Some s → Fits rules program s
    each_fits =
        holds_of_each rules program (λ _ s. Fits rules program s) (λ before line state all tells.
        let reached : Reaches rules program before line state = tells.0 in
        machine.step_fits reached.parent state line.thread (all line.parent reached.parent reached.at) reached.step)
        machine.start_fits lines states so

    pub steps_bounded : (i : ℕ) (s : State Machine Memory Place Form) → slice_get states i ≡ Some s → s.steps ≤ i
    steps_bounded =
        holds_of_each rules program (λ i s. s.steps ≤ i) (λ before line state all tells.
        let reached : Reaches rules program before line state = tells.0 in
        omega (
          arith,
          step_counts rules program reached.parent state line.thread reached.step,
          all line.parent reached.parent reached.at,
          slice_get_within before line.parent reached.parent reached.at,
        ))
        (omega arith) lines states so

    -- the start is one of the states that lines describe
    pub begins : (form_of : Memory → List (Option Place) → Form) → AreFormsExact rules form_of
        → IsAlikeToOneOf (AreStatesAlike rules) states (start rules program)
    begins form_of forms = (
      0,
      start rules program,
      front rules program (start rules program ∷ []) lines states so.1 0 (start rules program) refl,
      alike_itself rules form_of forms program (start rules program) machine.start_fits,
    )

-- the lines up to one and with it
pub take_next : (lines : List BookLine) (i : ℕ) (line : BookLine) → i < length lines → line ≡ get_or lines i line
    → take (i + 1) lines ≡ take i lines ++ line ∷ []
take_next lines i line less is = take_more lines i line less ∙ (λ j. take i lines ++ sym is j ∷ [])

module _ {Machine Memory Place Form : Type 0} {rules : Rules Memory Place} {program : Program}
    {label_of : State Machine Memory Place Form → List ℕ} where
  pub count_labels : {lines : List BookLine} {labels : List (List ℕ)} → AreLabelsOf rules program label_of lines labels
      → length labels ≡ length lines + 1
  count_labels {lines} so =
      ap length so.labelled ∙ length-map so.states label_of ∙ count_states rules program lines so.states so.replayed

  -- and as many as states
  pub same_count : {lines : List BookLine} {labels : List (List ℕ)} → AreLabelsOf rules program label_of lines labels
      → (states : List (State Machine Memory Place Form)) → AreReplayed rules program lines states
      → length labels ≡ length states
  same_count {lines} kept states so = count_labels kept ∙ sym (count_states rules program lines states so)

  -- the label of the start
  pub labels_start : (first : State Machine Memory Place Form) (label : List ℕ) (labels : List (List ℕ))
      → first ≡ start rules program → IsShown rules program first [] → label ≡ label_of first
      → labels ≡ label ∷ [] → AreLabelsOf rules program label_of [] labels
  labels_start first label labels is shown same made = record {
    states = first ∷ [];
    replayed = (rw is at shown, λ j. is j ∷ []);
    labelled = made ∙ (λ j. same j ∷ []);
  }

  module _ (lines : List BookLine) (i : ℕ) (line : BookLine) (less : i < length lines)
      (is : line ≡ get_or lines i line) {labels : List (List ℕ)}
      (so : AreLabelsOf rules program label_of (take i lines) labels) where
    -- one more line
    pub labels_next : (label : List ℕ) (longer : List (List ℕ))
        → ((states : List (State Machine Memory Place Form)) → AreReplayed rules program (take i lines) states
        → (state : State Machine Memory Place Form) × Tells rules program states line state × (label ≡ label_of state))
        → longer ≡ labels ++ label ∷ [] → AreLabelsOf rules program label_of (take (i + 1) lines) longer
    labels_next label longer tells made =
        let w = tells so.states so.replayed in
        record {
          states = so.states ++ w.0 ∷ [];
          replayed = (
            so.replayed.0,
            rw (take_next lines i line less is) (continues_push rules program (start rules program ∷ []) (take i lines)
                line so.states w.0 so.replayed.1 w.1),
          );
          labelled = made ∙ (λ j. so.labelled j ++ w.2 j ∷ []) ∙ sym (map-append label_of so.states (w.0 ∷ []));
        }

    -- what is amiss with it
    pub amiss_of_next : (fault : CheckFault)
        → ((states : List (State Machine Memory Place Form)) → AreReplayed rules program (take i lines) states
        → IsAmiss rules program states line fault)
        → IsFirstAmiss Machine Form rules program lines fault
    amiss_of_next fault amiss = inr (
      so.replayed.0,
      rw (split_at lines i line line less (sym is)) (amiss_next rules program (start rules program ∷ []) (take i lines)
          line (drop (i + 1) lines) so.states fault so.replayed.1 (amiss so.states so.replayed)),
    )

    -- the labels of the first lines are fewer than a file may have
    pub labels_bounded : length lines < 2000000 → length labels < 2000000
    labels_bounded most = omega (arith, count_labels so, length-take-le i lines (omega arith))
