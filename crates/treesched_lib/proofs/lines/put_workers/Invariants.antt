use Rattle.std.proofs.Common.{◌≡◌, ◌++◌, take}
use Rattle.std.specs.String.{string_bytes}
use Rattle.treesched_lib.specs.Lines.{workers_text}
use Rattle.treesched_lib.proofs.lines.put_workers.Given as goal

abbrev pub invariant-loop-i : goal.invariant-loop-i
invariant-loop-i l = string_bytes l.page ≡ string_bytes l.initial.page ++ workers_text 1 (take l.i l.shares)
