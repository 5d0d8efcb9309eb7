-- The row of a step is inserted, or its label was there.
use Rattle.tree_machine.specs.Step.{step}
use Rattle.book.proofs.SlotLemmas.{one_put}
use Rattle.book.proofs.placing.put_step.Goals as goal

pub returns-in-Some-clause-put : goal.returns-in-Some-clause-put
returns-in-Some-clause-put g c =
    one_put (step (g.M.Machine.rules c.args.machine) c.args.program.now) c.args.source.now.value c.args.parent _ _
    c.args.one _ _ c.in_ok-known.ensures.put c.open-row.ensures c.shown_step-shown.ensures

pub returns-in_default-clause-put : goal.returns-in_default-clause-put
returns-in_default-clause-put g c =
    one_put (step (g.M.Machine.rules c.args.machine) c.args.program.now) c.args.source.now.value c.args.parent _ _
    c.args.one _ _ c.in_ok-known.ensures.put c.open-row.ensures c.shown_step-shown.ensures
