use Rattle.replay.specs.BookFile.Kept.{IsSource}
use Rattle.replay.specs.Labels.{named_by}
use Rattle.replay.proofs.BookFile.Known.{AreKnownBelow}
use Rattle.replay.proofs.file.closing.test_closed.Given as goal

abbrev pub invariant-loop-i : goal.invariant-loop-i
invariant-loop-i g l =
    AreKnownBelow {Machine = g.row.M.Denot} (g.M.Machine.rules l.fn.input.machine) l.fn.input.program.now
    (named_by g.M.Encode.form_code (g.M.Machine.form_of l.fn.input.machine)) l.fn.input.lines.now l.fn.labels l.i
    × IsSource g.M.Encode.front_code g.M.Encode.behind_code l.fn.labels l.replayer.source l.replayer.state
