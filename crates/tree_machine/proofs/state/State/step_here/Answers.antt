-- The thread has a step where it is ready, and the access makes the state after it.
use Rattle.std.proofs.Common.{arith}
use Rattle.tree_machine.proofs.States.{step_by, step_fits}
use Rattle.tree_machine.proofs.state.State.step_here.Goals as goal

pub make_step-requires-clause-ready : goal.make_step-requires-clause-ready
make_step-requires-clause-ready g c κs within = grind arith

pub returns-clause-step : goal.returns-clause-step
returns-clause-step g c = grind (arith, step_by)

pub returns-clause-fits : goal.returns-clause-fits
returns-clause-fits g c =
    let bound = g.met.M.Machine g.world.𝓛 g.world.𝓜 g.world.𝓡 ((λ s x. x), (λ x. x), (λ x. x), λ x. x) in
    step_fits (g.M.Machine.rules c.args.machine) _ _ c.requires.fits (bound.lawful c.args.machine) c.args.t _
    (returns-clause-step g c)
