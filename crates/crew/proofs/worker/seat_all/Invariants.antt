use Rattle.std.proofs.Common.{ℕ, ◌<◌, All, IfSome, get_or}
use Rattle.claims.specs.Seats.{IsSeatOf}
use Rattle.crew.proofs.worker.seat_all.Given as goal

abbrev pub invariant-loop-worker : goal.invariant-loop-worker
invariant-loop-worker l = record {
  seated : (k : ℕ) (d : _) → k < l.worker-index → IfSome (get_or l.workers k d).seat (IsSeatOf l.claims);
  left : All (λ s. IsSeatOf l.claims s) l.seats.items;
}
