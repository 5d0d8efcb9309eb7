use Rattle.std.proofs.Common.{◌≡◌, ◌++◌, take}
use Rattle.std.specs.List.{flat_map}
use Rattle.tree_machine.specs.Alike.{places_of}
use Rattle.tree_machine.specs.AtomicCode.{held_code}
use Rattle.tree_machine.proofs.atomic.put_held.Given as goal

-- what the threads so far hold is written
abbrev pub invariant-loop-thread : goal.invariant-loop-thread
invariant-loop-thread l =
    l.out ≡ l.fn.out ++ flat_map held_code (places_of (take l.thread-index l.threads))
