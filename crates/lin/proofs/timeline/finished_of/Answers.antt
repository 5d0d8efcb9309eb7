use Rattle.std.proofs.Common.{Bool, false, get_or, ◌∙◌, ap}
use Rattle.sched_program.specs.declared.operation.OpId.{OpId}
use Rattle.lin.specs.Completion.{with_name}
use Rattle.lin.proofs.Timelines.{finished_placed, finished_more}
use Rattle.lin.proofs.timeline.finished_of.Goals as goal

abbrev nothing : OpId × Bool
nothing = (record { thread = 0; index = 0 }, false)

pub with-set-requires : goal.with-set-requires
with-set-requires c =
    let placed = rw (← c.finished-name-items.ensures.value) at
    (finished_placed c.args.history.now c.finished-name-items.ensures.events) in
    let has = placed c.loop-name.name-index nothing c.loop-name-test.true in
    record { thread = has.0; index = has.1 }

pub loop-name-preserved : goal.loop-name-preserved
loop-name-preserved c =
    let items = c.finished-name-items.result.now in
    c.with-set.ensures ∙ ap (λ listed. with_name listed (get_or items c.loop-name.name-index nothing).0)
    c.loop-name.invariant ∙ finished_more items c.loop-name.name-index nothing c.loop-name-test.true
