use Rattle.std.proofs.Common.{◌-◌, arith, refl}
use Rattle.std.specs.List.{range_with_len}
use Rattle.book.specs.Entries.{Taken}
use Rattle.book.specs.Books.{machine_in}
use Rattle.book.proofs.InBook.{layer_taken, states_bounded, states_fit}
use Rattle.book.proofs.Labels.{known_marks}
use Rattle.book.proofs.Cursors.{first_within}
use Rattle.book.proofs.Ranges.{IsLayerAt, layer_at, takes_layer}
use Rattle.book.proofs.book.Book.take_layer.Given.{Over}
use Rattle.book.proofs.book.Book.take_layer.Goals.{After-first_above-end}
use Rattle.book.proofs.book.Book.take_layer.Goals as goal

pub steps_to-requires-after_bounds : goal.steps_to-requires-after_bounds
steps_to-requires-after_bounds g c κs within = first_within _ _ _ c.in-Some.ensures.open

-- the layer that is taken
layer : (g : Over) (c : After-first_above-end g)
    → IsLayerAt (machine_in g.M.Machine.rules c.args.self.now).steps c.args.self.now.entries c.in-Some.start
    c.first_above-end.result
layer g c =
    let start = c.in-Some.ensures in
    let end = c.first_above-end.ensures in
    layer_at start.next start.open start.above c.steps_to.ensures end.below end.above end.within

pub invariant_of-self : goal.invariant_of-self
invariant_of-self g c =
    rw c.mark_range_taken.ensures (
      layer_taken c.self.invariant.0
          (rw (← c.self.view_is) at (layer g (goal.at.invariant_of-self g c).After-first_above-end)),
      known_marks _ c.self.inside.table (range_with_len c.in-Some.start (c.first_above-end.result - c.in-Some.start))
          Taken c.self.invariant.1,
    )

pub returns-clause-taken : goal.returns-clause-taken
returns-clause-taken g c =
    takes_layer (layer g (goal.at.returns-clause-taken g c).After-first_above-end) _ c.in_ok-layer.layer.items
    c.in_ok-layer.ensures.numbers c.in_ok-layer.ensures.states (rw (c.mark_range_taken.ensures, ← c.self.view_is) refl)

pub returns-clause-fits : goal.returns-clause-fits
returns-clause-fits g c =
    rw (← c.self.view_is) (states_fit c.self.invariant.0 c.in_ok-layer.layer.items
    (rw (← c.self.view_is) at c.in_ok-layer.ensures.states))

pub returns-clause-bounded : goal.returns-clause-bounded
returns-clause-bounded g c =
    rw (← c.self.view_is) (states_bounded c.self.invariant.0 c.in_ok-layer.layer.items
    (rw (← c.self.view_is) at c.in_ok-layer.ensures.states))

pub mark_range_taken-requires-clause-some : goal.mark_range_taken-requires-clause-some
mark_range_taken-requires-clause-some g c =
    omega (arith, (layer g (goal.at.mark_range_taken-requires-clause-some g c).After-first_above-end).some)

pub mark_range_taken-requires-clause-within : goal.mark_range_taken-requires-clause-within
mark_range_taken-requires-clause-within g c = rw (← c.self.view_is) at c.first_above-end.ensures.within

pub mark_range_taken-requires-clause-first : goal.mark_range_taken-requires-clause-first
mark_range_taken-requires-clause-first g c = rw (← c.self.view_is) at c.in-Some.ensures.open
