use Rattle.std.proofs.Common.{◌≡◌, ◌-◌, ◌<◌, length, get_or, IfSome, ◌∙◌, ap, refl, arith}
use Rattle.std.proofs.lemmas.List.{get_or_default, length-set}
use Rattle.lin.specs.OpSet.{operations_in}
use Rattle.lin.specs.Timeline.{counted}
use Rattle.lin.proofs.Timelines.{holds_before, begun_placed}
use Rattle.lin.proofs.timeline.sets_before.Goals as goal

pub loop-i-preserved : goal.loop-i-preserved
loop-i-preserved c =
    let begun = c.begun-begun.result.now in
    let d = c.index-begun-i.result in
    let x = get_or begun (c.loop-i.i - 1) d in
    let within : c.loop-i.i - 1 < length begun = omega arith in
    let placed = rw (← c.begun-begun.ensures.value) at (begun_placed _ c.begun-begun.ensures.events) in
    let counts : operations_in c.counted.result ≡ counted x.1 =
    c.counted.ensures ∙ ap (λ e. counted e.1) (get_or_default begun (c.loop-i.i - 1) _ d within) in
    record {
      count = length-set _ _ _ ∙ c.loop-i.invariant.count;
      sets = holds_before (λ o set. IfSome o (λ note. operations_in set ≡ counted note)) begun c.loop-i.i x d
          c.loop-i.sets _ c.counted.result (omega arith) (omega arith) refl (placed (c.loop-i.i - 1) d within)
          c.place_of.ensures.value (omega arith) counts c.loop-i.invariant.sets;
    }
