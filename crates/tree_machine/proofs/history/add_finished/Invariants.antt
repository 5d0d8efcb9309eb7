use Rattle.std.proofs.Common.{◌≡◌, ◌++◌, take}
use Rattle.tree_machine.specs.History.{named}
use Rattle.tree_machine.proofs.history.add_finished.Given as goal

-- the operations so far are named
abbrev pub invariant-loop-index : goal.invariant-loop-index
invariant-loop-index l = l.finished.items ≡ l.initial.finished.items ++ named l.thread 0 (take l.index l.replies)
