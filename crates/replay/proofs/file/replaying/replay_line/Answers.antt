use Rattle.std.proofs.Common.{◌≡◌, ◌<◌, inl, inr, length, arith}
use Rattle.std.proofs.lemmas.List.{length_push}
use Rattle.std.proofs.lemmas.Option.{slice_get_within}
use Rattle.std.proofs.lemmas.Result.{err_from_is_err_and}
use Rattle.replay.specs.Labels.{named_by}
use Rattle.replay.proofs.BookFile.Known.{still_closed}
use Rattle.replay.proofs.BookFile.Replayed.{amiss_of_next, labels_bounded, labels_next, same_count, take_next}
use Rattle.replay.proofs.BookFile.Twins.{source_pushed}
use Rattle.replay.proofs.file.replaying.replay_line.Goals as goal

pub label_of_line-requires-clause-bounded : goal.label_of_line-requires-clause-bounded
label_of_line-requires-clause-bounded g c κs within =
    labels_bounded c.args.input.now.lines.now c.args.index c.index-input-index.result c.requires.within
    c.index-input-index.is c.requires.kept c.requires.bounded

pub push-requires : goal.push-requires
push-requires g c =
    labels_bounded c.args.input.now.lines.now c.args.index c.index-input-index.result c.requires.within
    c.index-input-index.is c.requires.kept c.requires.bounded

pub returns-in_err-label-clause-amiss : goal.returns-in_err-label-clause-amiss
returns-in_err-label-clause-amiss g c =
    let p = err_from_is_err_and c.from_residual.result c.from_residual.ensures.1 in
    let earlier = c.up_to-earlier.ensures in
    rw (p.1, p.2) (elim (rw (earlier.machine, earlier.program, earlier.lines, ← c.index-input-index.is) at
    c.in_err-label.ensures.amiss) [
      | inl memory ↦ inl memory
      | inr amiss ↦ inr (amiss_of_next c.args.input.now.lines.now c.args.index c.index-input-index.result
          c.requires.within c.index-input-index.is c.requires.kept c.in_err-label.field-0.0 amiss)
    ])

pub returns-clause-kept : goal.returns-clause-kept
returns-clause-kept g c =
    let earlier = c.up_to-earlier.ensures in
    labels_next c.args.input.now.lines.now c.args.index c.index-input-index.result c.requires.within
    c.index-input-index.is c.requires.kept c.in_ok-label.label c.push.new.self
    (rw (earlier.machine, earlier.program, earlier.lines, ← c.index-input-index.is) at
    c.in_ok-label.ensures.tells) c.in_ok-push.ensures

pub returns-clause-parent : goal.returns-clause-parent
returns-clause-parent g c =
    let earlier = c.up_to-earlier.ensures in
    let kept = c.requires.kept in
    let line = c.index-input-index.result in
    let tells = rw (earlier.machine, earlier.program, earlier.lines, ← c.index-input-index.is) at
    c.in_ok-label.ensures.tells in
    let reached = (tells kept.states kept.replayed).1.0 in
    let within : line.parent < length kept.states =
    slice_get_within kept.states line.parent reached.parent reached.at in
    let within_labels : line.parent < length c.push.new.self =
    rw c.in_ok-push.ensures (omega (
      arith,
      within,
      same_count kept kept.states kept.replayed,
      length_push c.args.labels.now c.in_ok-label.label,
    )) in
    rw (← c.index-input-index.is) within_labels

pub returns-clause-closed : goal.returns-clause-closed
returns-clause-closed g c entry closed =
    let input = c.args.input.now in
    rw (
      take_next input.lines.now c.args.index c.index-input-index.result c.requires.within c.index-input-index.is,
      c.in_ok-push.ensures,
    )
    (still_closed (g.M.Machine.rules input.machine) input.program.now
    (named_by g.M.Encode.form_code (g.M.Machine.form_of input.machine)) _ c.index-input-index.result
    c.args.labels.now c.in_ok-label.label entry closed)

pub returns-clause-source : goal.returns-clause-source
returns-clause-source g c =
    rw c.in_ok-push.ensures (source_pushed g.M.Encode.front_code g.M.Encode.behind_code c.args.labels.now
    c.in_ok-label.label c.label_of_line.new.replayer.source c.label_of_line.new.replayer.state
    c.in_ok-label.ensures.source)
