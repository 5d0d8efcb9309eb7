use Rattle.std.proofs.Common.{◌||◌, ◌∙◌, ap}
use Rattle.lin.specs.OpSet.{operations_in}
use Rattle.lin.specs.Timeline.{counted}
use Rattle.lin.proofs.Timelines.{counted_none, counted_more, counted_all}
use Rattle.lin.proofs.timeline.counted.Goals as goal

pub loop-thread-init : goal.loop-thread-init
loop-thread-init c = c.empty-set.ensures ∙ counted_none c.as_slice-count-items.result.now

pub loop-thread-preserved : goal.loop-thread-preserved
loop-thread-preserved c =
    let items = c.as_slice-count-items.result.now in
    c.union-set.ensures ∙ ap (λ listed. λ a. listed a || operations_in c.first.result a) c.loop-thread.invariant
    ∙ counted_more items c.loop-thread.thread _ c.loop-thread-test.true (operations_in c.first.result)
    c.first.ensures

pub returns : goal.returns
returns c =
    let items = c.as_slice-count-items.result.now in
    c.loop-thread.invariant ∙ counted_all items c.loop-thread.thread c.loop-thread-test.false
    ∙ ap counted c.as_slice-count-items.ensures
