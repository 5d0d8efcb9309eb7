use Rattle.std.proofs.Common.{◌≡◌, ◌++◌, ◌∷◌, length}
use Rattle.std.specs.List.{flat_map}
use Rattle.tree_machine.specs.FormCode.{note_code}
use Rattle.tree_machine.proofs.op_log_reading.read_notes.Given as goal

-- the notes so far are read
abbrev pub invariant-loop-i : goal.invariant-loop-i
invariant-loop-i l = record {
  read : l.bytes ≡ l.count ∷ (flat_map note_code l.notes ++ l.rest);
  length : length l.notes ≡ l._i;
}
