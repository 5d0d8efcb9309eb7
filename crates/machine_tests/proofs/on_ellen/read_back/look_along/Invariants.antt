use Rattle.tree_machine.specs.Step.{Fits}
use Rattle.ellen.specs.EllenRules.{ellen_rules}
use Rattle.machine_tests.proofs.on_ellen.read_back.look_along.Given as goal

abbrev pub invariant-loop-line : goal.invariant-loop-line
invariant-loop-line l = Fits (ellen_rules l.how.machine) l.how.program.now l.state.value
