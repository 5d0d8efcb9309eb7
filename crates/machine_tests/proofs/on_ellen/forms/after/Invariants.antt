use Rattle.tree_machine.specs.Step.{Fits}
use Rattle.ellen.specs.EllenRules.{ellen_rules}
use Rattle.machine_tests.proofs.on_ellen.forms.after.Given as goal

abbrev pub invariant-loop-thread : goal.invariant-loop-thread
invariant-loop-thread l = Fits (ellen_rules l.machine) l.program l.state.value
