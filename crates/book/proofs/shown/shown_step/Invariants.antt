use Rattle.std.specs.Prelude.{unwrap_or}
use Rattle.tree_machine.specs.Step.{step}
use Rattle.book.proofs.shown.shown_step.Given as goal

abbrev pub ghost-any : goal.ghost-any
ghost-any g a =
    unwrap_or (step (g.M.Machine.rules a.x.now.0) a.x.now.1.now a.x.now.2.now.value a.x.now.3) a.x.now.2.now.value
