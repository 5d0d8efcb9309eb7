use Rattle.std.proofs.Common.{rules}
use Rattle.std.proofs.lemmas.List.Elements.{All-head, All-tail}
use Rattle.book.specs.ByLabel.{IsOf}
use Rattle.crew.proofs.layer_run.LayerRun.expand_all.Goals as goal

pub loop-place-init : goal.loop-place-init
loop-place-init g c =
    record {
      pending = rw c.in_ok-reserve.ensures.items c.requires.pending;
      left = rw c.into_iter-place-iterator.ensures.into_iter_gives.0 c.requires.drawn;
    }

pub expand-requires-clause-entry : goal.expand-requires-clause-entry
expand-requires-clause-entry g c = λ κs within.
    let exploration = c.args.self.now.exploration in
    All-head (λ d. IsOf exploration.machine exploration.program.now d.1.key) (c.in-Some.place, c.in-Some.entry)
    c.next.new.self.rest.items (rw c.in-Some.ensures.steps.0 at c.loop-place.invariant.left)

pub loop-place-preserved : goal.loop-place-preserved
loop-place-preserved g c =
    let exploration = c.args.self.now.exploration in
    record {
      pending = search rules;
      left = All-tail (λ d. IsOf exploration.machine exploration.program.now d.1.key) (c.in-Some.place, c.in-Some.entry)
          c.next.new.self.rest.items (rw c.in-Some.ensures.steps.0 at c.loop-place.invariant.left);
    }

pub loop-place-preserved-in-Continue-branch-3 : goal.loop-place-preserved-in-Continue-branch-3
loop-place-preserved-in-Continue-branch-3 g c =
    let exploration = c.args.self.now.exploration in
    record {
      pending = search rules;
      left = All-tail (λ d. IsOf exploration.machine exploration.program.now d.1.key) (c.in-Some.place, c.in-Some.entry)
          c.next.new.self.rest.items (rw c.in-Some.ensures.steps.0 at c.loop-place.invariant.left);
    }
