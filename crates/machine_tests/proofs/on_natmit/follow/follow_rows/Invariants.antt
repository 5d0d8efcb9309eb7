use Rattle.tree_machine.specs.Step.{Fits}
use Rattle.natmit.specs.NatMitRules.{natmit_rules}
use Rattle.machine_tests.proofs.on_natmit.follow.follow_rows.Given as goal

abbrev pub invariant-loop-i : goal.invariant-loop-i
invariant-loop-i l = Fits (natmit_rules l.machine) l.program l.state
