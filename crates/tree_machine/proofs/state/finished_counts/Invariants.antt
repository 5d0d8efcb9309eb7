use Rattle.std.proofs.Common.{◌≡◌, take}
use Rattle.tree_machine.specs.Step.{finished_counts}
use Rattle.tree_machine.proofs.state.finished_counts.Given as goal

-- the threads so far are counted
abbrev pub invariant-loop-thread : goal.invariant-loop-thread
invariant-loop-thread g l = l.counts ≡ finished_counts (take l.thread-index l.threads)
