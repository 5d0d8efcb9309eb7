use Rattle.std.proofs.Common.{false, inl, inr, true, true≢false}
use Rattle.std.proofs.lemmas.List.{take_all}
use Rattle.std.proofs.lemmas.Result.{err_from_is_err_and}
use Rattle.tree_machine.proofs.Lists.{slice_get-replicate}
use Rattle.replay.proofs.BookFile.Replayed.{labels_start}
use Rattle.replay.proofs.file.replaying.replay_lines.Goals as goal

pub loop-i-init : goal.loop-i-init
loop-i-init g c = (
  labels_start c.args.replayer.now.state c.in_ok-start.start c.push.new.self c.requires.start
      c.in_ok-start.ensures.shown c.in_ok-start.ensures.label (rw c.new-labels.ensures at c.in_ok-push.ensures),
  rw (c.in_ok-start.ensures.source, c.requires.source) tt,
  λ i at. absurd (true≢false (slice_get-replicate _ false i true (rw c.in_ok-marks.ensures at at))),
)

pub returns-in_err-start-clause-amiss : goal.returns-in_err-start-clause-amiss
returns-in_err-start-clause-amiss g c =
    let p = err_from_is_err_and c.from_residual.result c.from_residual.ensures.1 in
    rw (p.1, p.2) (elim (rw c.requires.start at c.in_err-start.ensures.unshown) [
      | inl memory ↦ inl memory
      | inr unshown ↦ inr (inl unshown)
    ])

pub mark_closed-requires-clause-marked : goal.mark_closed-requires-clause-marked
mark_closed-requires-clause-marked g c κs within =
    let so_far = c.up_to-so_far.ensures in
    rw (so_far.machine, so_far.program, so_far.lines)
    (λ i at. c.in_ok-parent.ensures.closed i (c.loop-i.invariant.2 i at))

pub loop-i-preserved-then-has_parent : goal.loop-i-preserved-then-has_parent
loop-i-preserved-then-has_parent g c = (
  c.in_ok-parent.ensures.kept,
  c.in_ok-parent.ensures.source,
  λ i at. c.in_ok-parent.ensures.closed i (c.loop-i.invariant.2 i at),
)

pub loop-i-preserved : goal.loop-i-preserved
loop-i-preserved g c =
    let so_far = c.up_to-so_far.ensures in (
      c.in_ok-parent.ensures.kept,
      c.in_ok-mark_closed.ensures.source,
      rw (so_far.machine, so_far.program, so_far.lines) at c.in_ok-mark_closed.ensures.marked,
    )

pub returns-clause-marked : goal.returns-clause-marked
returns-clause-marked g c =
    rw (take_all c.loop-i.i c.args.input.now.lines.now c.loop-i-test.false) at c.loop-i.invariant.2
