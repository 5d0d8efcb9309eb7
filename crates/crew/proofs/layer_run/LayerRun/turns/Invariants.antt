use Rattle.std.specs.List.{All}
use Rattle.claims.specs.Seats.{IsSeatOf}
use Rattle.book.specs.ByLabel.{IsOf}
use Rattle.crew.proofs.layer_run.LayerRun.turns.Given as goal

-- the seat stays one of the counter's, and what is pending is of the exploration
abbrev pub invariant-loop-turn : goal.invariant-loop-turn
invariant-loop-turn g l = record {
  seat : IsSeatOf l.self.claims l.seat;
  pending : All (λ x. IsOf l.self.exploration.machine l.self.exploration.program.now x.key) l.pending.entries.items;
}
