use Rattle.std.specs.List.{All}
use Rattle.book.specs.ByLabel.{IsOf}
use Rattle.crew.proofs.layer_run.LayerRun.entries_at.Given as goal

-- the entries so far are of the exploration
abbrev pub invariant-loop-place : goal.invariant-loop-place
invariant-loop-place g l =
    All (λ d. IsOf l.self.exploration.machine l.self.exploration.program.now d.1.key) l.entries.items
