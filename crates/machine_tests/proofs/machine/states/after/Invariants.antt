use Rattle.tree_machine.specs.Atomic.{atomic_rules}
use Rattle.tree_machine.specs.Step.{Fits}
use Rattle.machine_tests.proofs.machine.states.after.Given as goal

abbrev pub invariant-loop-thread : goal.invariant-loop-thread
invariant-loop-thread l = Fits atomic_rules l.program l.state.value
