-- What takes a step back.
use Rattle.std.specs.Prelude.{◌≡◌, ℕ, Bool, true, false, Option, Some, slice_get}
use Rattle.tree_machine.specs.declared.state.Thread.{Thread}
use Rattle.tree_machine.specs.declared.state.State.{State}

-- What takes a step of thread t from a state to the next one back: the thread as it was, whether the step left the
-- memory
-- as it was, and if it did not, the memory of before.
pub record TakesBack {Machine Memory Place Form : Type 0} (source : State Machine Memory Place Form) (t : ℕ)
    (thread : Thread Place) (reads : Bool) (memory : Option Memory)
    (next : State Machine Memory Place Form) : Type 0 where
  pub was : slice_get source.threads t ≡ Some thread
  pub same : reads ≡ true → next.memory ≡ source.memory
  pub kept : reads ≡ false → memory ≡ Some source.memory
