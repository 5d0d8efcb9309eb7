use Rattle.std.proofs.Common.{◌≡◌, length, drop}
use Rattle.lin.specs.Timeline.{AreSetsBefore}
use Rattle.lin.proofs.timeline.sets_before.Given as goal

abbrev pub invariant-loop-i : goal.invariant-loop-i
invariant-loop-i l = record {
  count : length l.sets ≡ 32;
  sets : AreSetsBefore (drop l.i l.begun) l.sets;
}
