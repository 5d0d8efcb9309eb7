use Rattle.std.proofs.Common.{◌≡◌, ◌++◌, replicate}
use Rattle.tree_machine.proofs.reading.read_long_number.Given as goal

-- each byte so far is 255
abbrev pub invariant-loop-whole : goal.invariant-loop-whole
invariant-loop-whole l = l.bytes ≡ replicate l.whole 255 ++ l.rest
