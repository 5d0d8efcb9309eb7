-- The first of a list of states with a step to a state that none of them is alike to.
use Rattle.std.specs.Prelude.{◌≡◌, ℕ, ◌+◌, ◌<◌, List, Some, slice_get}
use Rattle.sched_program.specs.Program.{Program}
use Rattle.tree_machine.specs.Rules.{Rules}
use Rattle.tree_machine.specs.Step.{step}
use Rattle.tree_machine.specs.Alike.{AreStatesAlike}
use Rattle.tree_machine.specs.declared.state.State.{State}
use Rattle.replay.specs.Closed.{IsAlikeToOneOf}
use Rattle.replay.specs.declared.file.fault.CheckFault.{CheckFault}
use Rattle.replay.specs.declared.file.fault.CheckFault.TheVariants.{Open}

module _ {Machine Memory Place Form : Type 0} (rules : Rules Memory Place) (program : Program) where
  -- some step of the state reaches one that none of the states is alike to
  abbrev pub IsOpenAt : List (State Machine Memory Place Form) → State Machine Memory Place Form → Type 0
  IsOpenAt states state = (t : ℕ) × (next : State Machine Memory Place Form) × (step rules program state t ≡ Some next)
      × (IsAlikeToOneOf (AreStatesAlike rules) states next → ⊥)

  -- the fault names the line of the first of the states with such a step; entry 0 is on line 2
  pub record IsFirstOpen (states : List (State Machine Memory Place Form)) (fault : CheckFault) : Type 0 where
    pub index : ℕ
    pub state : State Machine Memory Place Form
    pub at : slice_get states index ≡ Some state
    pub stated : fault ≡ Open (index + 2)
    pub leads_out : IsOpenAt states state
    pub first : (i : ℕ) (earlier : State Machine Memory Place Form) → i < index → slice_get states i ≡ Some earlier
        → IsOpenAt states earlier → ⊥
