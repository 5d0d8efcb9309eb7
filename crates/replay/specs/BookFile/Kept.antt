-- What is kept of the entries of a book file, and the states that stand in for theirs.
use Rattle.std.specs.Prelude.{◌≡◌, ℕ, ◌≤◌, Bool, true, Option, Some, List, Contains, IfSome, IsSomeAnd, map, slice_get}
use Rattle.sched_program.specs.Program.{Program}
use Rattle.tree_machine.specs.Offsets.{AreOffsetsOf}
use Rattle.tree_machine.specs.Rules.{Rules}
use Rattle.tree_machine.specs.Alike.{AreStatesAlike}
use Rattle.tree_machine.specs.Step.{step, Fits}
use Rattle.tree_machine.specs.declared.code_offsets.CodeOffsets.{CodeOffsets}
use Rattle.tree_machine.specs.declared.front.Front.{Front}
use Rattle.tree_machine.specs.declared.state.State.{State}
use Rattle.replay.specs.declared.file.line.BookLine.{BookLine}
use Rattle.replay.specs.declared.file.replayer.Source.{Source}
use Rattle.replay.specs.BookFile.Replays.{AreReplayed}

module _ {Machine Memory Place Form : Type 0} (rules : Rules Memory Place) (program : Program) where
  -- the lines describe states, and these are their labels
  pub record AreLabelsOf (label_of : State Machine Memory Place Form → List ℕ) (lines : List BookLine)
      (labels : List (List ℕ)) : Type 0 where
    pub states : List (State Machine Memory Place Form)
    pub replayed : AreReplayed rules program lines states
    pub labelled : labels ≡ map label_of states

  -- `twin` is alike to `state` and has at most `most` steps, so that its steps may be made in place of those of `state`
  pub record StandsFor (most : ℕ) (state twin : State Machine Memory Place Form) : Type 0 where
    pub alike : AreStatesAlike rules state twin
    pub fits : Fits rules program twin
    pub steps : twin.steps ≤ most

  -- `twin` stands for the state at this index of those that the lines describe
  abbrev pub StandsForEntry : List BookLine → ℕ → State Machine Memory Place Form → Type 0
  StandsForEntry lines index twin = (states : List (State Machine Memory Place Form))
      → AreReplayed rules program lines states
      → (state : State Machine Memory Place Form) × (slice_get states index ≡ Some state) × StandsFor index state twin

  module _ (label_of : State Machine Memory Place Form → List ℕ) (labels : List (List ℕ))
      (state : State Machine Memory Place Form) where
    -- the label of each step of the state is known
    abbrev pub AreStepsKnown : Type 0
    AreStepsKnown = (t : ℕ) (next : State Machine Memory Place Form) → step rules program state t ≡ Some next
        → Contains labels (label_of next)

    -- the label of some step is not
    abbrev pub IsStepUnknown : Type 0
    IsStepUnknown = (t : ℕ) × (next : State Machine Memory Place Form) × (step rules program state t ≡ Some next)
        × (Contains labels (label_of next) → ⊥)

  -- the label of each step is known of the state at this index of those that the lines describe
  abbrev pub IsEntryClosed : (State Machine Memory Place Form → List ℕ) → List BookLine → List (List ℕ) → ℕ → Type 0
  IsEntryClosed label_of lines labels index = (states : List (State Machine Memory Place Form))
      → AreReplayed rules program lines states
      → (state : State Machine Memory Place Form) × (slice_get states index ≡ Some state)
      × AreStepsKnown label_of labels state

  -- so it is of each state that is marked
  abbrev pub AreMarkedClosed : (State Machine Memory Place Form → List ℕ) → List BookLine → List (List ℕ) → List Bool
      → Type 0
  AreMarkedClosed label_of lines labels marks = (index : ℕ) → slice_get marks index ≡ Some true
      → IsEntryClosed label_of lines labels index

-- the state was decoded from the label of this entry, if there is one, whose parts begin at these offsets
abbrev pub IsSource : {Machine Memory Place Form : Type 0} → (Front → Memory → List ℕ)
    → (Front → Memory → List (Option Place) → List ℕ) → List (List ℕ) → Option Source
    → State Machine Memory Place Form → Type 0
IsSource front_code behind_code labels source state =
    IfSome source (λ source. (label : List ℕ) × (slice_get labels source.index ≡ Some label)
    × AreOffsetsOf front_code behind_code label source.offsets state)

-- there is one, with this index
abbrev pub IsSourceAt : ℕ → Option Source → Type 0
IsSourceAt index source = IsSomeAnd source (λ source. source.index ≡ index)

-- there is one, with this label and these offsets
abbrev pub HasCode : List (List ℕ) → Option Source → List ℕ → CodeOffsets → Type 0
HasCode labels source label offsets =
    IsSomeAnd source (λ source. (slice_get labels source.index ≡ Some label) × (offsets ≡ source.offsets))
