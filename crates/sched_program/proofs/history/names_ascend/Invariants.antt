use Rattle.std.proofs.Common.{◌≡◌, ℕ, ◌+◌, ◌<◌, Some, slice_get}
use Rattle.sched_program.specs.Name.{IsBefore}
use Rattle.sched_program.specs.declared.operation.OpId.{OpId}
use Rattle.sched_program.proofs.history.names_ascend.Given as goal

-- the names so far ascend
abbrev pub invariant-loop-i : goal.invariant-loop-i
invariant-loop-i g l = (k : ℕ) (a b : OpId × g.row.V.Denot) → k + 1 < l.i → slice_get l.entries k ≡ Some a
    → slice_get l.entries (k + 1) ≡ Some b → IsBefore a.0 b.0
