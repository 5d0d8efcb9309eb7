use Rattle.std.proofs.Common.{true}
use Rattle.natmit.specs.NatMitRules.{natmit_rules}
use Rattle.tree_machine.proofs.Forms.{numbers_fit}
use Rattle.machine_tests.proofs.on_natmit.forms.end_of.Goals as goal

pub form-requires-clause-numbers : goal.form-requires-clause-numbers
form-requires-clause-numbers c κs =
    numbers_fit (natmit_rules (record { tag = true })) c.in_ok-program.program c.in_ok-state.state
    c.in_ok-state.ensures
