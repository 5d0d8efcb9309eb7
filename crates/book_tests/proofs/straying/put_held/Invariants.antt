use Rattle.std.proofs.Common.{◌≡◌, ◌++◌, map, take}
use Rattle.tree_machine.specs.Alike.{places_of}
use Rattle.book_tests.specs.Straying.{held_code}
use Rattle.book_tests.proofs.straying.put_held.Given as goal

-- what the threads so far hold is written
abbrev pub invariant-loop-thread : goal.invariant-loop-thread
invariant-loop-thread l = l.bytes.items ≡ l.fn.bytes.items ++ map held_code (places_of (take l.thread-index l.threads))
