use Rattle.std.proofs.Common.{◌≡◌, ◌-◌, Bool, false, get_or, Some, None, ◌∙◌, ap, refl, sym, arith}
use Rattle.std.proofs.lemmas.List.{get_or-replicate, length-set, drop_all}
use Rattle.sched_program.specs.declared.operation.OpId.{OpId}
use Rattle.sched_program.specs.Name.{value_at}
use Rattle.lin.specs.Timeline.{place_of}
use Rattle.lin.proofs.Timelines.{holds_before, finished_placed}
use Rattle.lin.proofs.timeline.replies_of.Goals as goal

abbrev nothing : OpId × Bool
nothing = (record { thread = 0; index = 0 }, false)

pub loop-i-init : goal.loop-i-init
loop-i-init c = record {
  count = refl;
  replies = λ a d has. get_or-replicate 32 (place_of a) None d (omega (arith, has.0, has.1))
      ∙ ap (λ xs. value_at xs a) (sym (drop_all _ c.finished-finished.result.now (omega arith)));
}

pub place_of-requires : goal.place_of-requires
place_of-requires c =
    (rw (← c.finished-finished.ensures.value) at (finished_placed _ c.finished-finished.ensures.events))
    (c.loop-i.i - 1) nothing (omega arith)

pub loop-i-preserved : goal.loop-i-preserved
loop-i-preserved c =
    let x = get_or c.finished-finished.result.now (c.loop-i.i - 1) nothing in
    let placed = rw (← c.finished-finished.ensures.value) at (finished_placed _ c.finished-finished.ensures.events) in
    record {
      count = length-set _ _ _ ∙ c.loop-i.invariant.count;
      replies = holds_before (λ o r. r ≡ o) _ c.loop-i.i x nothing c.loop-i.replies _ (Some x.1) (omega arith)
          (omega arith) refl (placed (c.loop-i.i - 1) nothing (omega arith)) c.place_of.ensures.value (omega arith) refl
          c.loop-i.invariant.replies;
    }
