use Rattle.tree_machine.specs.Step.{Fits}
use Rattle.natmit.specs.NatMitRules.{natmit_rules}
use Rattle.machine_tests.proofs.on_natmit.read_back.look_along.Given as goal

abbrev pub invariant-loop-step : goal.invariant-loop-step
invariant-loop-step l = Fits (natmit_rules l.how.machine) l.how.program.now l.state
