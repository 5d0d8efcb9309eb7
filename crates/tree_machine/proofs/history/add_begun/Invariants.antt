use Rattle.std.proofs.Common.{◌≡◌, ◌++◌, take}
use Rattle.tree_machine.specs.History.{named}
use Rattle.tree_machine.proofs.history.add_begun.Given as goal

-- the operations so far are named
abbrev pub invariant-loop-index : goal.invariant-loop-index
invariant-loop-index l = l.begun.items ≡ l.initial.begun.items ++ named l.thread 0 (take l.index l.notes)
