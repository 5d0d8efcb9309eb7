use Rattle.std.proofs.Common.{◌≡◌, ◌++◌, length, take}
use Rattle.std.specs.List.{flat_map}
use Rattle.tree_machine.specs.Alike.{notes_of, replies_of}
use Rattle.tree_machine.specs.FormCode.{list_code, note_code}
use Rattle.tree_machine.proofs.op_log_reading.read_all_notes.Given as goal

-- the notes of the threads so far are read
abbrev pub invariant-loop-index : goal.invariant-loop-index
invariant-loop-index g l = record {
  read : l.bytes ≡ flat_map (list_code note_code) (notes_of (take l.index l.threads)) ++ l.rest;
  replies : replies_of l.threads ≡ replies_of l.fn.threads;
  length : length l.threads ≡ length l.fn.threads;
}
