use Rattle.std.proofs.Common.{◌≡◌, ◌++◌, take}
use Rattle.std.specs.List.{flat_map}
use Rattle.tree_machine.specs.Alike.{replies_of, notes_of}
use Rattle.tree_machine.specs.Flat.{cell_code, part_content}
use Rattle.natmit.specs.Parts.{held_part}
use Rattle.natmit.proofs.reading.place.read_places.Given as goal

-- what the threads so far hold is read, and what they did is as it was
abbrev pub invariant-loop-thread : goal.invariant-loop-thread
invariant-loop-thread l =
    record {
      read : l.bytes
          ≡ flat_map (λ thread. cell_code (part_content (held_part thread.place))) (take l.thread-index l.threads)
          ++ l.rest;
      replies : replies_of l.threads ≡ replies_of l.fn.threads;
      notes : notes_of l.threads ≡ notes_of l.fn.threads;
    }
