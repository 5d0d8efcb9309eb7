use Rattle.std.proofs.Common.{◌≡◌, ◌+◌, All, vec_len, length}
use Rattle.claims.specs.Seats.{IsSeatOf}
use Rattle.crew_tests.proofs.drawing.gathered.Given as goal

abbrev pub invariant-loop-drawer : goal.invariant-loop-drawer
invariant-loop-drawer l = record {
  len : vec_len l.seats + length l.drawers.items ≡ length l.fn.drawers.items;
  own : All (λ s. IsSeatOf l.claims s) l.seats.items;
  left : All (λ d. IsSeatOf l.claims d.seat) l.drawers.items;
}

abbrev pub decreases-loop-drawer : goal.decreases-loop-drawer
decreases-loop-drawer l = length l.drawers.items
