use Rattle.std.proofs.Common.{◌≡◌, ℕ, ◌<◌}
use Rattle.replay.specs.BookFile.Kept.{IsSource}
use Rattle.replay.specs.Labels.{named_by}
use Rattle.replay.proofs.BookFile.Known.{IsStepKnown}
use Rattle.replay.proofs.file.closing.leads_out.Given as goal

abbrev pub invariant-loop-thread : goal.invariant-loop-thread
invariant-loop-thread g l = (l.replayer.state ≡ l.fn.replayer.state)
    × ((t : ℕ) → t < l.thread
    → IsStepKnown {Machine = g.row.M.Denot} (g.M.Machine.rules l.fn.input.machine) l.fn.input.program.now
    (named_by g.M.Encode.form_code (g.M.Machine.form_of l.fn.input.machine)) l.fn.labels l.fn.replayer.state t)
    × IsSource g.M.Encode.front_code g.M.Encode.behind_code l.fn.labels l.replayer.source l.replayer.state
