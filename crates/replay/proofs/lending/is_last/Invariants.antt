use Rattle.std.proofs.Common.{◌≤◌, All, take}
use Rattle.std.specs.Prelude.{slice_index}
use Rattle.replay.proofs.lending.is_last.Given as goal

abbrev pub invariant-loop-thread : goal.invariant-loop-thread
invariant-loop-thread g l =
    All (λ thread. All (λ note. slice_index note l.name.thread ≤ l.name.index) thread.notes)
    (take l.thread-index l.thread-items)
