use Rattle.std.proofs.Common.{inr, []}
use Rattle.replay.proofs.Text.Entries.{lines_push, lines_all, lines_fault}
use Rattle.replay.proofs.file.reading.entry_lines.Goals as goal

pub loop-text-init : goal.loop-text-init
loop-text-init c =
    let (texts, are, bounded) = c.requires in
    rw c.new-lines.ensures
    (record { done = []; ahead = texts; whole = are; left = are; each = tt; bounded = bounded })

pub returns-in-None-clause-err : goal.returns-in-None-clause-err
returns-in-None-clause-err c =
    let cut = c.in-Some.ensures.found in
    rw c.len.ensures (inr (lines_fault c.in-Some.tail.now c.loop-text.invariant cut.0 cut.1
    (rw c.in-None.is at c.in_ok-line.ensures.none)))

pub loop-text-preserved : goal.loop-text-preserved
loop-text-preserved c =
    let cut = c.in-Some.ensures.found in
    rw c.in_ok-push-in-Some-2.ensures.ok
    (lines_push c.loop-text.invariant cut.0 cut.1 (rw c.in-Some-2.is at c.in_ok-line.ensures.found))

pub returns-clause-ok : goal.returns-clause-ok
returns-clause-ok c = rw c.into_vec.ensures (lines_all c.loop-text.invariant c.in_default.ensures.none)
