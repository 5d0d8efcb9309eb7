-- The row is the part that it shows.
use Rattle.std.proofs.Common.{OnOk, subst}
use Rattle.tree_machine.specs.Coding.{IsVisited}
use Rattle.machine_tests.proofs.machine.parts.Row.show.Goals as goal

pub returns : goal.returns
returns c =
    subst (λ p. OnOk c.visit.result
    (IsVisited p c.args.coder.now c.args.out.now c.visit.new.self c.visit.new.out)) c.self.view_is c.visit.ensures
