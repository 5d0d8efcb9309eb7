use Rattle.std.proofs.Common.{◌≡◌, take}
use Rattle.natmit.specs.Initial.{initial_memory}
use Rattle.natmit.proofs.initial.build.Given as goal

abbrev pub invariant-loop-key : goal.invariant-loop-key
invariant-loop-key l = l.mem ≡ initial_memory (take l.key-index l.initial')
