-- States that are read from labels, and what they stand for.
use Rattle.std.specs.Prelude.{ℕ, ◌+◌, ◌^◌, ◌<◌, ◌≤◌, List, Option}
use Rattle.sched_program.specs.Program.{Program, IsWithinLimits}
use Rattle.sched_program.specs.declared.operation.OpId.{OpId}
use Rattle.tree_machine.specs.Offsets.{AreOffsetsOf}
use Rattle.tree_machine.specs.Rules.{Rules}
use Rattle.tree_machine.specs.Step.{Fits}
use Rattle.tree_machine.specs.declared.state.State.{State}
use Rattle.options.specs.declared.options.Merge.{Merge}
use Rattle.tree_machine.specs.declared.code_offsets.CodeOffsets.{CodeOffsets}
use Rattle.tree_machine.specs.declared.front.Front.{Front}
use Rattle.replay.specs.declared.finding.Finding.TheVariants.{Sound}
use Rattle.book.specs.Books.{CountsAsOne}
use Rattle.book.specs.ByLabel.{HoldsOfKey, Key}
use Rattle.replay.specs.Findings.{IsFindingOf}
use Rattle.book.specs.Labels.{HoldsOfLabel, label_by}

-- a state counts as one with another, so that its steps may be made in place of that one's
pub record StandsIn {Machine Memory Place Form : Type 0} (rules : Rules Memory Place) (program : Program)
    (merge : Merge) (state twin : State Machine Memory Place Form) : Type 0 where
  pub counts : CountsAsOne rules merge state twin
  pub fits : Fits rules program twin
  pub steps : twin.steps ≤ state.steps

-- the state was read from the label: it stands in for each state that has this label in a book of either merge
pub record IsRead {Machine Memory Place Form : Type 0} (front_code : Front → Memory → List ℕ)
    (behind_code : Front → Memory → List (Option Place) → List ℕ) (own_code : Memory → List (Option Place) → List ℕ)
    (form_code : Form → List ℕ) (form_of : Memory → List (Option Place) → Form) (rules : Rules Memory Place)
    (label : List ℕ) (offsets : CodeOffsets) (twin : State Machine Memory Place Form) : Type 0 where
  pub read : AreOffsetsOf front_code behind_code label offsets twin
  pub stands : (merge : Merge) (program : Program) → IsWithinLimits program
      → HoldsOfLabel rules program (label_by own_code form_code form_of merge) label
      (λ state. StandsIn rules program merge state twin)

-- the states with this label are sound with this linearization; this one, whose own bytes are the label, stands in for
-- them
pub record IsSource {Machine Memory Place Form : Type 0} (front_code : Front → Memory → List ℕ)
    (behind_code : Front → Memory → List (Option Place) → List ℕ) (rules : Machine → Rules Memory Place)
    (own_code : Memory → List (Option Place) → List ℕ) (form_code : Form → List ℕ)
    (form_of : Machine → Memory → List (Option Place) → Form) (key : Key Machine) (offsets : CodeOffsets)
    (order : List OpId) (twin : State Machine Memory Place Form) : Type 0 where
  pub read : AreOffsetsOf front_code behind_code key.label offsets twin
  pub fits : Fits (rules key.machine) key.program twin
  pub steps_fit : twin.steps + 1 < 2 ^ 64
  pub sound : IsFindingOf (rules key.machine) key.program twin (Sound order)
  pub counts : HoldsOfKey rules own_code form_code form_of key
      (λ state. CountsAsOne (rules key.machine) key.merge state twin)
