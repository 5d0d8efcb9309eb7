-- What an answer says of all schedules of a program.
use Rattle.std.specs.Prelude.{◌≡◌, ℕ, ◌<◌, ◌≤◌, Some, List, length}
use Rattle.sched_program.specs.Program.{Program}
use Rattle.tree_machine.specs.Rules.{Rules}
use Rattle.tree_machine.specs.declared.state.State.{State}
use Rattle.replay.specs.declared.finding.Finding.{Finding}
use Rattle.replay.specs.Schedule.{after}
use Rattle.replay.specs.Correct.{IsCorrect, HoldsAlways}
use Rattle.replay.specs.Findings.{machine_of, IsFindingOf}
use Rattle.reports.specs.declared.answer.Answer.{Answer}
use Rattle.reports.specs.declared.answer.Answer.TheVariants as answer
use Rattle.reports.specs.Faults.{LeadsToFault}

module _ (Machine Form : Type 0) {Memory Place : Type 0} (rules : Rules Memory Place) (program : Program) where
  -- every schedule of at most n steps keeps search order and leaves a linearizable history
  abbrev pub HoldsTo : ℕ → Type 0
  HoldsTo n = (schedule : List ℕ) (state : State Machine Memory Place Form) → length schedule ≤ n
      → after (machine_of rules program) schedule ≡ Some state → IsCorrect rules program state

  -- the schedule reaches the fault, and every shorter one keeps search order and leaves a linearizable history
  pub record IsShortestFault (schedule : List ℕ) (finding : Finding) : Type 0 where
    pub fault : LeadsToFault {S = State Machine Memory Place Form} (machine_of rules program)
        (IsFindingOf rules program) schedule finding
    pub none_shorter : (shorter : List ℕ) (state : State Machine Memory Place Form) → length shorter < length schedule
        → after (machine_of rules program) shorter ≡ Some state → IsCorrect rules program state

  abbrev pub IsTrueOf : Answer → Type 0
  IsTrueOf answer.Every = HoldsAlways Machine Form rules program
  IsTrueOf (answer.Holds steps) = HoldsTo steps
  IsTrueOf (answer.Fault finding schedule) = IsShortestFault schedule.items finding
  IsTrueOf (answer.Stopped limit holds_to) = HoldsTo holds_to
