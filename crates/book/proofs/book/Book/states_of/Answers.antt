use Rattle.std.proofs.Common.{◌≡◌, ℕ, arith, refl}
use Rattle.std.specs.declared.sync.Arc.{Arc}
use Rattle.std.proofs.lemmas.List.{map_push}
use Rattle.book.specs.Entries.{Entry, At}
use Rattle.book.proofs.Lists.{all_pushed}
use Rattle.book.proofs.Ranges.{range_next}
use Rattle.book.proofs.book.Book.states_of.Goals as goal

pub state_of-requires-after_bounds : goal.state_of-requires-after_bounds
state_of-requires-after_bounds g c κs within = omega (arith, c.loop-index-test.true, c.requires.within)

pub loop-index-preserved : goal.loop-index-preserved
loop-index-preserved g c =
    let at = c.in_ok-state.ensures in
    let next = range_next c.args.start c.loop-index.index c.loop-index.auto.index in
    rw c.in_ok-push.ensures.items (
      rw (map_push (λ (p : ℕ × Arc _ _). p.0), c.loop-index.invariant.0, next) refl,
      all_pushed (λ (p : ℕ × Arc _ _). (d : Entry _) × At c.args.self.now.entries p.0 d × (d.state ≡ p.1.value)) _ _
          c.loop-index.invariant.1 at,
    )
