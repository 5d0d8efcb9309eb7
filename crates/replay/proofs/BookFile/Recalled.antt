-- The way to a state that lines tell, as it is gone back.
use Rattle.std.proofs.Common.{◌≡◌, ℕ, zero, suc, ◌+◌, ◌-◌, ◌<◌, ◌≤◌, Some, List, [], ◌∷◌, ◌++◌, length, reverse}
use Rattle.std.proofs.Common.{refl, arith, slice_get, subst}
use Rattle.std.proofs.lemmas.List.{reverse-append, length_push}
use Rattle.std.proofs.lemmas.Option.{slice_get_within}
use Rattle.sched_program.specs.Program.{Program}
use Rattle.tree_machine.specs.Rules.{Rules}
use Rattle.tree_machine.specs.Step.{start, step}
use Rattle.tree_machine.specs.declared.state.State.{State}
use Rattle.tree_machine.proofs.Lists.{get_at, get-append_left, get-append_right}
use Rattle.replay.specs.Findings.{machine_of}
use Rattle.replay.specs.Schedule.{run, after}
use Rattle.replay.specs.declared.file.line.BookLine.{BookLine}
use Rattle.replay.specs.BookFile.Replays.{AreReplayed, Continues, IsShown, Reaches}
use Rattle.replay.proofs.BookFile.Replayed.{count_states, front}

module _ {Machine Memory Place Form : Type 0} (rules : Rules Memory Place) (program : Program) where
  -- the state is the step, by this line, of one that stands before it
  pub record IsStepBy (states : List (State Machine Memory Place Form)) (index : ℕ) (line : BookLine)
      (state : State Machine Memory Place Form) : Type 0 where
    pub parent : State Machine Memory Place Form
    pub at : slice_get states line.parent ≡ Some parent
    pub earlier : line.parent < index
    pub step : step rules program parent line.thread ≡ Some state
    pub shown : IsShown rules program state line.order

  -- each line has a state behind the first ones, the step that it tells
  step_behind : (before : List (State Machine Memory Place Form)) (lines : List BookLine)
      (states : List (State Machine Memory Place Form)) → Continues rules program before lines states
      → (k : ℕ) (line : BookLine) → slice_get lines k ≡ Some line
      → (s : State Machine Memory Place Form) × (slice_get states (length before + k) ≡ Some s)
      × IsStepBy states (length before + k) line s
  step_behind before [] states so k line at = cc
  step_behind before (first ∷ rest) states so zero line at =
      let is : first ≡ line = cc in
      let reached : Reaches rules program before line so.0 = rw is at so.1.0 in
      let stays = front rules program (before ++ so.0 ∷ []) rest states so.2 in (
        so.0,
        stays (length before + 0) so.0 (get-append_right before (so.0 ∷ []) 0 so.0 refl),
        record {
          parent = reached.parent;
          at = stays line.parent reached.parent (get-append_left before (so.0 ∷ []) _ _ reached.at);
          earlier = omega (arith, slice_get_within before line.parent reached.parent reached.at);
          step = reached.step;
          shown = rw is at so.1.1;
        },
      )
  step_behind before (first ∷ rest) states so (suc k) line at =
      let longer : List (State Machine Memory Place Form) = before ++ so.0 ∷ [] in
      let place : length before + suc k ≡ length longer + k = omega (arith, length_push before so.0) in
      rw place (step_behind longer rest states so.2 k line at)

  -- a way from a state that lines tell leads to the one at an index
  pub record LeadsTo (states : List (State Machine Memory Place Form)) (at : ℕ) (way : List ℕ) (index : ℕ)
      : Type 0 where
    pub here : State Machine Memory Place Form
    pub there : State Machine Memory Place Form
    pub is_here : slice_get states at ≡ Some here
    pub is_there : slice_get states index ≡ Some there
    pub leads : run (machine_of {Machine = Machine} {Form = Form} rules program) here way ≡ Some there

  -- no thread leads from a state to itself
  pub leads_nowhere : (states : List (State Machine Memory Place Form)) (index : ℕ) → index < length states
      → LeadsTo states index [] index
  leads_nowhere states index within =
      let w = get_at states index within in
      record { here = w.0; there = w.0; is_here = w.1; is_there = w.1; leads = refl }

  -- the state that a line tells
  pub told_by : (lines : List BookLine) (states : List (State Machine Memory Place Form))
      → AreReplayed rules program lines states → (k : ℕ) (line : BookLine) → slice_get lines k ≡ Some line
      → (s : State Machine Memory Place Form) × (slice_get states (suc k) ≡ Some s) × IsStepBy states (suc k) line s
  told_by lines states so k line at =
      let place : suc k ≡ 1 + k = omega arith in
      rw place (step_behind (start rules program ∷ []) lines states so.1 k line at)

  -- the empty order shows the start
  pub start_shown : (lines : List BookLine) (states : List (State Machine Memory Place Form))
      → AreReplayed rules program lines states → (state : State Machine Memory Place Form)
      → slice_get states 0 ≡ Some state → IsShown rules program state []
  start_shown lines states so state at =
      let first = front rules program (start rules program ∷ []) lines states so.1 0 (start rules program) refl in
      let same : start rules program ≡ state = cc in
      subst (λ x. IsShown rules program x []) same so.0

  -- behind it a line's order shows the state that it tells
  pub line_shown : (lines : List BookLine) (states : List (State Machine Memory Place Form))
      → AreReplayed rules program lines states → (k : ℕ) (line : BookLine) → slice_get lines k ≡ Some line
      → (state : State Machine Memory Place Form) → slice_get states (suc k) ≡ Some state
      → IsShown rules program state line.order
  line_shown lines states so k line is state at =
      let (here, told, by) = told_by lines states so k line is in
      let same : here ≡ state = cc in
      subst (λ x. IsShown rules program x line.order) same by.shown

-- a way that is gone back so far, along lines
module _ {Machine Memory Place Form : Type 0} {rules : Rules Memory Place} {program : Program} (lines : List BookLine)
    {states : List (State Machine Memory Place Form)} (so : AreReplayed rules program lines states) {at index : ℕ} where
  -- behind the start each state has a line
  pub has_line : {way : List ℕ} → 0 < at → LeadsTo rules program states at way index → at - 1 < length lines
  has_line later so_far =
      let many = count_states rules program lines states so in
      omega (arith, slice_get_within states at so_far.here so_far.is_here, many)

  -- one step back
  pub one_back : 0 < at → (noted : List ℕ) → LeadsTo rules program states at (reverse noted) index
      → (line : BookLine) → slice_get lines (at - 1) ≡ Some line
      → (line.parent < at) × LeadsTo rules program states line.parent (reverse (noted ++ line.thread ∷ [])) index
  one_back later noted so_far line is =
      let behind : suc (at - 1) ≡ at = omega arith in
      let (here, told, by) = rw behind at (told_by rules program lines states so (at - 1) line is) in
      let same : here ≡ so_far.here = cc in (
        by.earlier,
        record {
          here = by.parent;
          there = so_far.there;
          is_here = by.at;
          is_there = so_far.is_there;
          leads = rw (reverse-append noted (line.thread ∷ []), by.step, same) so_far.leads;
        },
      )

  -- it ends at the start
  pub from_start : at ≤ 0 → (way : List ℕ) → LeadsTo rules program states at way index
      → (s : State Machine Memory Place Form) × (slice_get states index ≡ Some s)
      × (after (machine_of rules program) way ≡ Some s)
  from_start least way so_far =
      let zeroth : at ≡ 0 = omega arith in
      let first = front rules program (start rules program ∷ []) lines states so.1 0 (start rules program) refl in
      let same : start rules program ≡ so_far.here = cc in
      (so_far.there, so_far.is_there, rw same so_far.leads)
