use Rattle.std.proofs.Common.{◌≡◌, length}
use Rattle.crew.proofs.layer_run.Exploration.expand_layers.Given as goal

abbrev pub invariant-loop-number : goal.invariant-loop-number
invariant-loop-number g l = length l.workers ≡ length l.fn.workers
