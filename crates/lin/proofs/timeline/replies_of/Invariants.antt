use Rattle.std.proofs.Common.{◌≡◌, length, drop}
use Rattle.lin.specs.Timeline.{AreReplies}
use Rattle.lin.proofs.timeline.replies_of.Given as goal

abbrev pub invariant-loop-i : goal.invariant-loop-i
invariant-loop-i l = record {
  count : length l.replies ≡ 32;
  replies : AreReplies (drop l.i l.finished) l.replies;
}
