use Rattle.tree_machine.specs.Atomic.{atomic_rules}
use Rattle.tree_machine.proofs.Forms.{numbers_fit}
use Rattle.machine_tests.proofs.machine.states.form_of.Goals as goal

pub form-requires-clause-numbers : goal.form-requires-clause-numbers
form-requires-clause-numbers c κs = numbers_fit atomic_rules c.args.program.now c.args.state.now c.requires
