use Rattle.std.proofs.Common.{sym, ap, append-nil, ◌∙◌}
use Rattle.std.specs.Vec.Iter.{drain_items}
use Rattle.tree_machine.specs.Step.{step}
use Rattle.book.proofs.Draining.{all_drained}
use Rattle.book.proofs.SlotLemmas.{grown, more_put}
use Rattle.book.proofs.placing.put_steps.Goals as goal

pub loop-one-init : goal.loop-one-init
loop-one-init g c = sym (append-nil c.args.slots.now.entries)

pub loop-one-preserved : goal.loop-one-preserved
loop-one-preserved g c =
    more_put (step (g.M.Machine.rules c.args.machine) c.args.program.now) c.args.source.now.value c.args.parent _ _ _
    c.loop-one.yielded c.in-Some.one c.loop-one.invariant c.in_ok-put_step.ensures.put

pub returns-clause-put : goal.returns-clause-put
returns-clause-put g c =
    let all =
    all_drained c.args.steps.items c.loop-one.yielded c.args.steps.len _ _ _ c.next.new.self c.args.steps.ok.0
    (ap drain_items c.into_iter-one-iterator.ensures.into_iter_gives ∙ c.drain-one-items.ensures.rest)
    c.loop-one.yielded_by c.in-None.is c.next.ensures.steps in
    rw all at c.loop-one.invariant

pub returns-clause-kept : goal.returns-clause-kept
returns-clause-kept g c =
    grown (step (g.M.Machine.rules c.args.machine) c.args.program.now) c.args.source.now.value c.args.parent _ _
    c.loop-one.yielded c.loop-one.invariant

pub returns-in_err-put_step-clause-kept : goal.returns-in_err-put_step-clause-kept
returns-in_err-put_step-clause-kept g c =
    grown (step (g.M.Machine.rules c.args.machine) c.args.program.now) c.args.source.now.value c.args.parent _ _
    c.loop-one.yielded (c.in_err-put_step.ensures.err ∙ c.loop-one.invariant)
