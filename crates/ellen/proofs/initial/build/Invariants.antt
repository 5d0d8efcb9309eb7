use Rattle.std.proofs.Common.{◌≡◌, take}
use Rattle.ellen.specs.Initial.{initial_memory}
use Rattle.ellen.proofs.initial.build.Given as goal

abbrev pub invariant-loop-key : goal.invariant-loop-key
invariant-loop-key l = l.memory ≡ initial_memory (take l.key-index l.initial')
