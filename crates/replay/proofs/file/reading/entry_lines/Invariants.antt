use Rattle.std.proofs.Common.{length}
use Rattle.replay.proofs.Text.Entries.{HasReadLines}
use Rattle.replay.proofs.file.reading.entry_lines.Given as goal

abbrev pub invariant-loop-text : goal.invariant-loop-text
invariant-loop-text l = HasReadLines l.bytes l.lines l.rest

abbrev pub decreases-loop-text : goal.decreases-loop-text
decreases-loop-text l = length l.rest
