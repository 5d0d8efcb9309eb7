use Rattle.std.proofs.Common.{◌≡◌}
use Rattle.std.specs.Io.KnownBytes.{Consumes}
use Rattle.sched_program.proofs.counted.Counted.read_all.Given as goal

abbrev pub invariant-loop : goal.invariant-loop
invariant-loop g l = (l.self.failures ≡ l.initial.self.failures)
    × Consumes (g.R.Read.remaining l.initial.self.reader) (g.R.Read.remaining l.self.reader) l.bytes.items
