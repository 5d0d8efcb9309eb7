use Rattle.std.proofs.Common.{take}
use Rattle.replay.specs.BookFile.Kept.{AreLabelsOf, AreMarkedClosed, IsSource}
use Rattle.replay.specs.Labels.{named_by}
use Rattle.replay.proofs.file.replaying.replay_lines.Given as goal

abbrev pub invariant-loop-i : goal.invariant-loop-i
invariant-loop-i g l =
    AreLabelsOf {Machine = g.row.M.Denot} (g.M.Machine.rules l.fn.input.machine) l.fn.input.program.now
    (named_by g.M.Encode.form_code (g.M.Machine.form_of l.fn.input.machine)) (take l.i l.fn.input.lines.now) l.labels
    × IsSource g.M.Encode.front_code g.M.Encode.behind_code l.labels l.replayer.source l.replayer.state
    × AreMarkedClosed {Machine = g.row.M.Denot} (g.M.Machine.rules l.fn.input.machine) l.fn.input.program.now
    (named_by g.M.Encode.form_code (g.M.Machine.form_of l.fn.input.machine)) (take l.i l.fn.input.lines.now) l.labels
    l.marks.items
