use Rattle.tree_machine.specs.Step.{Fits}
use Rattle.lin_tests.proofs.walks.state_after.Given as goal

abbrev pub invariant-loop-thread : goal.invariant-loop-thread
invariant-loop-thread g l = Fits (g.M.Machine.rules l.machine) l.program l.state
