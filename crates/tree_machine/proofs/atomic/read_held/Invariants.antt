use Rattle.std.proofs.Common.{◌≡◌, ◌++◌, take}
use Rattle.std.specs.List.{flat_map}
use Rattle.tree_machine.specs.Alike.{notes_of, places_of, replies_of}
use Rattle.tree_machine.specs.AtomicCode.{held_code}
use Rattle.tree_machine.proofs.atomic.read_held.Given as goal

-- what the threads so far hold is read
abbrev pub invariant-loop-index : goal.invariant-loop-index
invariant-loop-index l = record {
  read : l.bytes ≡ flat_map held_code (places_of (take l.index l.threads)) ++ l.rest;
  replies : replies_of l.threads ≡ replies_of l.fn.threads;
  notes : notes_of l.threads ≡ notes_of l.fn.threads;
}
