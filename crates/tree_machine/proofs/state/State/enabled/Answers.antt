use Rattle.std.proofs.Common.{rules, ◌↔◌, IsTrue}
use Rattle.tree_machine.specs.Step.{IsEnabled}
use Rattle.tree_machine.proofs.Alike.{enabled_alike}
use Rattle.tree_machine.proofs.state.State.enabled.Goals as goal

pub returns-clause-alike : goal.returns-clause-alike
returns-clause-alike g c machine twin alike =
    let stated : IsTrue c.is_some.result ↔ IsEnabled c.args.program.now c.args.self.now c.args.t = search rules in
    enabled_alike (g.M.Machine.rules machine) c.args.self.now twin alike c.args.program.now c.args.t c.is_some.result
    stated

pub returns-clause-enabled : goal.returns-clause-enabled
returns-clause-enabled g c = search rules
