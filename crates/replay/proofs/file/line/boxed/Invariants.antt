use Rattle.std.proofs.Common.{◌≡◌, take}
use Rattle.replay.proofs.file.line.boxed.Given as goal

abbrev pub invariant-loop-known : goal.invariant-loop-known
invariant-loop-known l = l.longer ≡ take l.known-index l.names
