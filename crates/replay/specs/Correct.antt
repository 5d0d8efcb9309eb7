-- Correct states, and programs whose every schedule reaches one.
use Rattle.std.specs.Prelude.{◌≡◌, ℕ, Some, None, List}
use Rattle.sched_program.specs.Program.{Program}
use Rattle.tree_machine.specs.Rules.{Rules}
use Rattle.tree_machine.specs.History.{history_of}
use Rattle.tree_machine.specs.declared.state.State.{State}
use Rattle.lin.specs.Linearization.{IsLinearizable}
use Rattle.replay.specs.Schedule.{after}
use Rattle.replay.specs.Findings.{machine_of}

module _ {Memory Place : Type 0} (rules : Rules Memory Place) (program : Program) where
  -- no thread went astray, the memory keeps search order, and the history has a linearization
  abbrev pub IsCorrect : {Machine Form : Type 0} → State Machine Memory Place Form → Type 0
  IsCorrect state = (state.astray ≡ None) × rules.IsOrdered state.memory × IsLinearizable program (history_of state)

-- every schedule of any length keeps search order and leaves a linearizable history
abbrev pub HoldsAlways : (Machine Form : Type 0) {Memory Place : Type 0} → Rules Memory Place → Program → Type 0
HoldsAlways Machine Form {Memory} {Place} rules program = (schedule : List ℕ) (state : State Machine Memory Place Form)
    → after (machine_of rules program) schedule ≡ Some state → IsCorrect rules program state
