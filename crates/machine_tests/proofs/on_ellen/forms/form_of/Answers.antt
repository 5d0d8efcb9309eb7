use Rattle.ellen.specs.EllenRules.{ellen_rules}
use Rattle.tree_machine.proofs.Forms.{numbers_fit}
use Rattle.machine_tests.proofs.on_ellen.forms.form_of.Goals as goal

pub form-requires-clause-numbers : goal.form-requires-clause-numbers
form-requires-clause-numbers c κs =
    numbers_fit (ellen_rules c.args.machine) c.args.program.now c.args.state.now c.requires
