use Rattle.std.proofs.Common.{◌≡◌}
use Rattle.std.proofs.lemmas.List.Elements.{All-push}
use Rattle.book.specs.ByLabel.{IsOf}
use Rattle.crew.proofs.layer_run.LayerRun.expand.Goals as goal

pub returns : goal.returns
returns g c =
    let exploration = c.args.self.now.exploration in
    let key : c.in-Some.expanded.key ≡ c.args.entry.key = rw c.in-Some.is at c.in_ok-expanded.ensures in
    let is : IsOf exploration.machine exploration.program.now c.in-Some.expanded.key = rw key c.requires.entry in
    record {
      pending = rw c.in_ok-push.ensures.items
          (All-push (λ x. IsOf exploration.machine exploration.program.now x.key) c.args.pending.now.entries.items
          c.in-Some.expanded c.requires.pending is);
    }
