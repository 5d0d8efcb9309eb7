-- What is found of a state.
use Rattle.std.specs.Prelude.{◌≡◌, Bool, true, false, None, IsSome, length}
use Rattle.sched_program.specs.Program.{Program}
use Rattle.tree_machine.specs.Rules.{Rules}
use Rattle.tree_machine.specs.Step.{start, step, Fits}
use Rattle.tree_machine.specs.History.{history_of}
use Rattle.tree_machine.specs.declared.state.State.{State}
use Rattle.lin.specs.Linearization.{IsLinearization, IsLinearizable}
use Rattle.replay.specs.declared.finding.Finding.{Finding}
use Rattle.replay.specs.declared.finding.Finding.TheVariants as found
use Rattle.replay.specs.Schedule.{StepMachine}

-- every finding but `Sound` is a fault
abbrev pub is_sound : Finding → Bool
is_sound found.Astray = false
is_sound found.Order = false
is_sound found.History = false
is_sound (found.Sound order) = true

-- some finding that is right shows the state sound
abbrev pub IsSound : {S : Type 0} → (S → Finding → Type 0) → S → Type 0
IsSound right s = (finding : Finding) × right s finding × (is_sound finding ≡ true)

module _ {Machine Memory Place Form : Type 0} (rules : Rules Memory Place) (program : Program) where
  -- a machine that runs a program, with its steps
  abbrev pub machine_of : StepMachine (State Machine Memory Place Form)
  machine_of =
      record {
        start = start rules program;
        step = step rules program;
        steps = λ state. state.steps;
        threads = length program.threads;
        Fits = Fits rules program;
      }

  -- The finding of a state is the first that applies: it is astray; its memory does not keep search order;
  -- its history has no linearization; else it is sound, with a linearization.
  abbrev pub IsFindingOf : State Machine Memory Place Form → Finding → Type 0
  IsFindingOf state found.Astray = IsSome state.astray
  IsFindingOf state found.Order = (state.astray ≡ None) × (rules.IsOrdered state.memory → ⊥)
  IsFindingOf state found.History =
      (state.astray ≡ None) × rules.IsOrdered state.memory × (IsLinearizable program (history_of state) → ⊥)
  IsFindingOf state (found.Sound order) =
      (state.astray ≡ None) × rules.IsOrdered state.memory × IsLinearization program (history_of state) order
