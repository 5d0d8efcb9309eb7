-- States whose numbers name nodes and records that there are.
use Rattle.tree_machine.specs.Alike.{places_of}
use Rattle.tree_machine.specs.Rules.{ArePlacesInRange, Rules}
use Rattle.tree_machine.specs.declared.state.State.{State}

-- each number of the state, in its memory and in what its threads hold, names a node or a record of that memory
pub record AreNumbersInRange {Machine Memory Place Form : Type 0} (rules : Rules Memory Place)
    (state : State Machine Memory Place Form) : Type 0 where
  pub memory : rules.IsInRange state.memory
  pub places : ArePlacesInRange rules state.memory (places_of state.threads)
