use Rattle.tree_machine.specs.Step.{Fits}
use Rattle.natmit.specs.NatMitRules.{natmit_rules}
use Rattle.machine_tests.proofs.on_natmit.forms.after.Given as goal

abbrev pub invariant-loop-thread : goal.invariant-loop-thread
invariant-loop-thread l = Fits (natmit_rules l.machine) l.program l.state
