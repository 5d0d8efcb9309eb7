-- Schedules that reach a fault.
use Rattle.std.specs.Prelude.{◌≡◌, ℕ, ◌≤◌, false, Some, List, length}
use Rattle.replay.specs.declared.finding.Finding.{Finding}
use Rattle.replay.specs.Findings.{is_sound}
use Rattle.replay.specs.Schedule.{StepMachine, after}

module _ {S : Type 0} (m : StepMachine S) (right : S → Finding → Type 0) where
  -- the schedule reaches a state, and the finding is right for it and is a fault
  pub record LeadsToFault (schedule : List ℕ) (finding : Finding) : Type 0 where
    pub state : S
    pub leads : after m schedule ≡ Some state
    pub found : right state finding
    pub fault : is_sound finding ≡ false

  abbrev pub IsFaulty : List ℕ → Type 0
  IsFaulty schedule = (finding : Finding) × LeadsToFault schedule finding

  -- some schedule of n steps reaches a fault, and no shorter one does
  pub record IsLeastFault (n : ℕ) : Type 0 where
    pub schedule : List ℕ
    pub long : length schedule ≡ n
    pub faulty : IsFaulty schedule
    pub least : (other : List ℕ) → IsFaulty other → n ≤ length other
