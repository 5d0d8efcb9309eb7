use Rattle.std.proofs.lemmas.List.Elements.{All-push}
use Rattle.book.specs.ByLabel.{IsOf}
use Rattle.crew.proofs.layer_run.LayerRun.entries_at.Goals as goal

pub loop-place-preserved : goal.loop-place-preserved
loop-place-preserved g c =
    let exploration = c.args.self.now.exploration in
    rw c.in_ok-push.ensures.items (All-push (λ d. IsOf exploration.machine exploration.program.now d.1.key)
    c.loop-place.entries.items _ c.loop-place.invariant c.in_ok-entry.ensures)
