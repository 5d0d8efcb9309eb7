-- The states that the lines of a book file describe, one after the other, and what may be amiss with a line.
use Rattle.std.specs.Prelude.{◌≡◌, ℕ, ◌+◌, ◌≤◌, ◌⊎◌, List, [], ◌∷◌, ◌++◌, length, Some, None, slice_get}
use Rattle.sched_program.specs.Program.{Program}
use Rattle.sched_program.specs.declared.operation.OpId.{OpId}
use Rattle.tree_machine.specs.Rules.{Rules}
use Rattle.tree_machine.specs.Step.{start, step}
use Rattle.tree_machine.specs.History.{history_of}
use Rattle.tree_machine.specs.declared.state.State.{State}
use Rattle.lin.specs.Linearization.{IsLinearization}
use Rattle.replay.specs.declared.file.line.BookLine.{BookLine}
use Rattle.replay.specs.declared.file.fault.CheckFault.{CheckFault}
use Rattle.replay.specs.declared.file.fault.CheckFault.TheVariants.{Parent, Step, Fault, History}

module _ {Machine Memory Place Form : Type 0} (rules : Rules Memory Place) (program : Program) where
  -- no thread went astray, and the memory keeps search order
  abbrev pub IsWell : State Machine Memory Place Form → Type 0
  IsWell state = (state.astray ≡ None) × rules.IsOrdered state.memory

  -- the state is well, and the order explains its history
  abbrev pub IsShown : State Machine Memory Place Form → List OpId → Type 0
  IsShown state order = IsWell state × IsLinearization program (history_of state) order

  -- what is amiss with a state and its order, where the entry is on line `number`: the state is not well, or the order
  -- does not explain its history
  abbrev pub IsUnshown : State Machine Memory Place Form → List OpId → ℕ → CheckFault → Type 0
  IsUnshown state order number fault =
      ((fault ≡ Fault number) × (IsWell state → ⊥))
      ⊎ ((fault ≡ History number) × IsWell state × (IsLinearization program (history_of state) order → ⊥))

  -- after these states, the line states the step of one of them by its thread, and the step reaches this state
  pub record Reaches (before : List (State Machine Memory Place Form)) (line : BookLine)
      (state : State Machine Memory Place Form) : Type 0 where
    pub parent : State Machine Memory Place Form
    pub at : slice_get before line.parent ≡ Some parent
    pub step : step rules program parent line.thread ≡ Some state

  -- and its order shows that state
  abbrev pub Tells : List (State Machine Memory Place Form) → BookLine → State Machine Memory Place Form → Type 0
  Tells before line state = Reaches before line state × IsShown state line.order

  -- the thread is not enabled in the parent's state
  abbrev pub IsStuck : List (State Machine Memory Place Form) → BookLine → Type 0
  IsStuck before line = (parent : State Machine Memory Place Form) × (slice_get before line.parent ≡ Some parent)
      × (step rules program parent line.thread ≡ None)

  -- what is amiss with the line of the entry after these states, which is line `length before + 2`: its parent is none
  -- of them, or its thread is not enabled in the parent's state, or something is amiss with the state that it reaches
  -- and its order
  abbrev pub IsAmiss : List (State Machine Memory Place Form) → BookLine → CheckFault → Type 0
  IsAmiss before line fault =
      ((fault ≡ Parent (length before + 2)) × (length before ≤ line.parent))
      ⊎ ((fault ≡ Step (length before + 2)) × IsStuck before line)
      ⊎ ((state : State Machine Memory Place Form) × Reaches before line state
      × IsUnshown state line.order (length before + 2) fault)

  -- after these states the lines describe further ones, up to all of `states`
  abbrev pub Continues : List (State Machine Memory Place Form) → List BookLine → List (State Machine Memory Place Form)
      → Type 0
  Continues before [] states = states ≡ before
  Continues before (line ∷ rest) states = (state : State Machine Memory Place Form) × Tells before line state
      × Continues (before ++ state ∷ []) rest states

  -- after these states this is the first fault of a line
  abbrev pub FirstAmiss : List (State Machine Memory Place Form) → List BookLine → CheckFault → Type 0
  FirstAmiss before [] fault = ⊥
  FirstAmiss before (line ∷ rest) fault =
      IsAmiss before line fault
      ⊎ ((state : State Machine Memory Place Form) × Tells before line state
      × FirstAmiss (before ++ state ∷ []) rest fault)

  -- the entries' states, the start's first: the empty order shows the start, and the lines describe the others
  abbrev pub AreReplayed : List BookLine → List (State Machine Memory Place Form) → Type 0
  AreReplayed lines states = IsShown (start rules program) [] × Continues (start rules program ∷ []) lines states

-- the first fault of an entry; the start is on line 2
abbrev pub IsFirstAmiss : (Machine Form : Type 0) {Memory Place : Type 0} → Rules Memory Place → Program → List BookLine
    → CheckFault → Type 0
IsFirstAmiss Machine Form {Memory} {Place} rules program lines fault =
    let first : State Machine Memory Place Form = start rules program in
    IsUnshown rules program first [] 2 fault
    ⊎ (IsShown rules program first [] × FirstAmiss rules program (first ∷ []) lines fault)
