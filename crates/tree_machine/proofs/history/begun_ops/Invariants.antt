use Rattle.std.proofs.Common.{◌≡◌, take, map}
use Rattle.tree_machine.specs.History.{all_named}
use Rattle.tree_machine.proofs.history.begun_ops.Given as goal

-- the operations of the threads so far are named
abbrev pub invariant-loop-t : goal.invariant-loop-t
invariant-loop-t g l = l.begun.items ≡ all_named 0 (map (λ thread. thread.notes) (take l.t l.threads))
