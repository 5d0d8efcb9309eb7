use Rattle.std.proofs.Common.{◌≡◌, ◌≤◌, ◌+◌, ◌++◌, ℕ, List, length}
use Rattle.std.specs.Io.KnownBytes.{Appends}
use Rattle.treesched_lib.proofs.output.put_all.Given as goal

abbrev pub invariant-loop : goal.invariant-loop
invariant-loop g l = record {
  out : (gone : List ℕ) × (l.initial.rest ≡ gone ++ l.rest)
      × Appends (g.W.Write.contents l.initial.writer.writer) (g.W.Write.contents l.writer.writer) gone;
  left : l.counter + length l.rest ≤ l.end;
  none_failed : l.writer.failures ≡ l.initial.writer.failures;
}
