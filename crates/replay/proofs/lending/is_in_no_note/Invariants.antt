use Rattle.std.proofs.Common.{◌≤◌, All, take}
use Rattle.std.specs.Prelude.{slice_index}
use Rattle.replay.proofs.lending.is_in_no_note.Given as goal

abbrev pub invariant-loop-note : goal.invariant-loop-note
invariant-loop-note l = All (λ note. slice_index note l.name.thread ≤ l.name.index) (take l.note-index l.notes)
