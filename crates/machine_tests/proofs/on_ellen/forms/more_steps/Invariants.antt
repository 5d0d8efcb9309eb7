use Rattle.tree_machine.specs.Step.{Fits}
use Rattle.ellen.specs.EllenRules.{ellen_rules}
use Rattle.machine_tests.proofs.on_ellen.forms.more_steps.Given as goal

abbrev pub invariant-loop-step : goal.invariant-loop-step
invariant-loop-step l = Fits (ellen_rules l.machine) l.program l.state.value
