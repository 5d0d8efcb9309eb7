use Rattle.std.proofs.Common.{◌≡◌, ◌+◌, ◌*◌, ◌++◌, ◌∷◌, length, take}
use Rattle.std.specs.List.{flat_map}
use Rattle.tree_machine.specs.FormCode.{note_code}
use Rattle.tree_machine.proofs.coded.put_notes.Given as goal

-- the notes so far are written, within the slice
abbrev pub invariant-loop-note : goal.invariant-loop-note
invariant-loop-note l = record {
  put : take l.at l.bytes ≡ take l.start l.fn.bytes
      ++ length l.notes ∷ flat_map note_code (take l.note-index l.notes);
  at : l.at ≡ l.start + 1 + 2 * l.note-index;
  length : length l.bytes ≡ length l.fn.bytes;
}
