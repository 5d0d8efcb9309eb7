use Rattle.std.proofs.Common.{◌≡◌, ◌++◌}
use Rattle.tree_machine.specs.Graphs.{numbers_from}
use Rattle.tree_machine.proofs.coder.put_first.Given as goal

-- the numbers so far are appended
abbrev pub invariant-loop-number : goal.invariant-loop-number
invariant-loop-number l = l.queue.items ≡ l.fn.queue.items ++ numbers_from 0 l.number
