-- Where in the code of a state its parts begin.
use Rattle.std.specs.Prelude.{◌≡◌, ℕ, ◌+◌, List, length, Option}
use Rattle.tree_machine.specs.Alike.{notes_of, replies_of}
use Rattle.tree_machine.specs.Flat.{number_code}
use Rattle.tree_machine.specs.FormCode.{cut_code, op_log_code, state_code}
use Rattle.tree_machine.specs.Rules.{ArePlacesInRange, Rules}
use Rattle.tree_machine.specs.declared.code_offsets.CodeOffsets.{CodeOffsets}
use Rattle.tree_machine.specs.declared.front.Front.{Front}
use Rattle.tree_machine.specs.declared.state.State.{State}

-- what the threads did, and who went astray, in bytes
abbrev pub op_log_of : {Machine Memory Place Form : Type 0} → State Machine Memory Place Form → List ℕ
op_log_of state = op_log_code (replies_of state.threads) (notes_of state.threads) state.astray

-- The bytes are the code of the state, cut at the front. The offsets are where three parts of the code begin: what the
-- threads did, behind the number of steps; the memory, behind that; and what the threads hold, behind what comes in
-- front of it.
pub record AreOffsetsOf {Machine Memory Place Form : Type 0} (front_code : Front → Memory → List ℕ)
    (behind_code : Front → Memory → List (Option Place) → List ℕ) (bytes : List ℕ) (offsets : CodeOffsets)
    (state : State Machine Memory Place Form) : Type 0 where
  pub written : bytes ≡ state_code (cut_code front_code behind_code offsets.front) state
  pub op_log : offsets.op_log ≡ length (number_code state.steps)
  pub memory : offsets.memory ≡ offsets.op_log + length (op_log_of state)
  pub held : offsets.held ≡ offsets.memory + length (front_code offsets.front state.memory)

-- a memory that was read from such a code of another one with the places that threads hold
pub record IsReadFrom {Memory Place : Type 0} (rules : Rules Memory Place)
    (code : Memory → List (Option Place) → List ℕ)
    (cut : Memory → List (Option Place) → List ℕ) (memory : Memory) : Type 0 where
  pub other : Memory
  pub held : List (Option Place)
  pub twins : List (Option Place)
  pub in_range : rules.IsInRange other
  pub places_in_range : ArePlacesInRange rules other held
  pub many : length held ≡ length twins
  pub same : cut memory twins ≡ code other held
