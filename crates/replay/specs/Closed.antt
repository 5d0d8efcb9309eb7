-- Closed lists of states, which no step leads out of; and machines whose every schedule reaches a sound state.
use Rattle.std.specs.Prelude.{◌≡◌, ℕ, Some, List, slice_get}
use Rattle.replay.specs.declared.finding.Finding.{Finding}
use Rattle.replay.specs.Findings.{IsSound}
use Rattle.replay.specs.Schedule.{StepMachine, after}

-- one of the states is alike to s
abbrev pub IsAlikeToOneOf : {S : Type 0} → (S → S → Type 0) → List S → S → Type 0
IsAlikeToOneOf {S} Alike states s = (i : ℕ) × (r : S) × (slice_get states i ≡ Some r) × Alike r s

-- states of a machine: one of them is alike to the start, and each enabled step of each reaches a state that one of
-- them is alike to
pub record AreClosed {S : Type 0} (m : StepMachine S) (Alike : S → S → Type 0) (states : List S) : Type 0 where
  pub fit : (i : ℕ) (s : S) → slice_get states i ≡ Some s → m.Fits s
  pub start : IsAlikeToOneOf Alike states m.start
  pub steps : (i t : ℕ) (s r : S) → slice_get states i ≡ Some s → m.step s t ≡ Some r → IsAlikeToOneOf Alike states r

-- every schedule, of any length, reaches a sound state
abbrev pub HoldsForEvery : {S : Type 0} → StepMachine S → (S → Finding → Type 0) → Type 0
HoldsForEvery {S} m right = (c : List ℕ) (s : S) → after m c ≡ Some s → IsSound right s
