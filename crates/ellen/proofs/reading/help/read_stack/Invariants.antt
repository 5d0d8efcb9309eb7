use Rattle.std.proofs.Common.{◌≡◌, ◌<◌, ◌+◌, ◌++◌, length, map}
use Rattle.std.specs.Prelude.{All}
use Rattle.ellen.proofs.reading.help.read_stack.Given as goal

-- the records so far are read
abbrev pub invariant-loop-i : goal.invariant-loop-i
invariant-loop-i l =
    record {
      stack : l.fn.bytes ≡ map (λ number. number + 1) l.stack ++ l.rest;
      small : All (λ number. number < 254) l.stack;
      count : length l.stack ≡ l._i;
    }
