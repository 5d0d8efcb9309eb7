use Rattle.std.proofs.Common.{◌≡◌, ◌+◌, ◌*◌, ◌≤◌, ◌++◌, ◌∷◌, length, take}
use Rattle.std.specs.List.{flat_map}
use Rattle.tree_machine.specs.Alike.{notes_of}
use Rattle.tree_machine.specs.FormCode.{list_code, note_code}
use Rattle.tree_machine.proofs.coded.put_all_notes.Given as goal

-- the notes of the threads so far are written, within the slice
abbrev pub invariant-loop-thread : goal.invariant-loop-thread
invariant-loop-thread g l = record {
  put : take l.at l.bytes ≡ take l.start l.fn.bytes ++ length l.threads
      ∷ flat_map (list_code note_code) (notes_of (take l.thread-index l.threads));
  at : l.at ≤ l.start + 1 + 13 * l.thread-index;
  length : length l.bytes ≡ length l.fn.bytes;
}
