use Rattle.tree_machine.proofs.Forms.{forms_tell}
use Rattle.std.proofs.Common.{arith}
use Rattle.tree_machine.proofs.state.State.form.Goals as goal

pub returns-clause-exact : goal.returns-clause-exact
returns-clause-exact g c other numbers =
    let bound = g.met.M.Machine g.world.𝓛 g.world.𝓜 g.world.𝓡 ((λ s x. x), (λ x. x), (λ x. x), λ x. x) in
    rw (c.of.ensures, c.of-2.ensures) (forms_tell (g.M.Machine.rules c.args.machine)
    (g.M.Machine.form_of c.args.machine) (bound.forms c.args.machine) c.args.self.now other c.requires.numbers numbers)

pub invariant_of-result : goal.invariant_of-result
invariant_of-result g c = grind arith
