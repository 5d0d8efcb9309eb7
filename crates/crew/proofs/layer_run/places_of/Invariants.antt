use Rattle.std.proofs.Common.{◌<◌}
use Rattle.std.specs.List.{All}
use Rattle.claims.specs.Seats.{IsSeatOf}
use Rattle.crew.proofs.layer_run.places_of.Given as goal

-- the seat stays one of the counter's, and the places so far are the list's
abbrev pub invariant-loop-each : goal.invariant-loop-each
invariant-loop-each l = record {
  seat : IsSeatOf l.claims l.seat;
  within : All (λ place. place < l.claims.size.len) l.places.items;
}
