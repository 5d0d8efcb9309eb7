use Rattle.std.specs.List.{All}
use Rattle.book.specs.ByLabel.{IsOf}
use Rattle.crew.proofs.layer_run.LayerRun.expand_all.Given as goal

-- what is pending and what is left are of the exploration
abbrev pub invariant-loop-place : goal.invariant-loop-place
invariant-loop-place g l = record {
  pending : All (λ x. IsOf l.self.exploration.machine l.self.exploration.program.now x.key) l.pending.entries.items;
  left : All (λ d. IsOf l.self.exploration.machine l.self.exploration.program.now d.1.key) l.place-iterator.rest.items;
}
