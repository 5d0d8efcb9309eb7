-- The steps are labelled one after the other.
use Rattle.std.proofs.Common.{◌≡◌, ◌<◌, ◌+◌, ◌++◌, ◌∷◌, [], ℕ, List, length, map, take, get_or, refl, arith, ◌∙◌}
use Rattle.std.proofs.lemmas.List.{map_push, take_more}
use Rattle.std.proofs.lemmas.Option.{slice_get_read}
use Rattle.book.specs.Entries.{Successor}
use Rattle.book.specs.Labels.{label_by, labelled}
use Rattle.book.proofs.expansion.Expansion.labelled.Goals as goal

-- one more step is labelled
labelled_more : {S : Type 0} (label_of : S → List ℕ) (made : List (Successor (List ℕ))) (xs : List (Successor S))
    (i : ℕ) (x : Successor S) (l : List ℕ) → i < length xs → x ≡ get_or xs i x
    → made ≡ map (labelled label_of) (take i xs) → l ≡ label_of x.state
    → made ++ record { thread = x.thread; state = l; finding = x.finding } ∷ []
    ≡ map (labelled label_of) (take (i + 1) xs)
labelled_more label_of made xs i x l within is so_far label =
    rw (take_more xs i x within, map_push (labelled label_of) (take i xs) (get_or xs i x), ← is, so_far, label) refl

pub label-requires-after_bounds : goal.label-requires-after_bounds
label-requires-after_bounds g c κs within =
    let steps = c.deref-one-items.result.now in
    let i = c.loop-one.one-index in
    let one = slice_get_read steps (length steps) i c.one-item.result refl c.loop-one-test.true c.one-item.is in
    c.self.invariant.0.fit i c.one-item.result (rw c.deref-one-items.ensures.value at one)

pub loop-one-preserved : goal.loop-one-preserved
loop-one-preserved g c =
    let self = c.self.inside in
    let label_of = label_by {Machine = g.row.M.Denot} g.M.Encode.own_code g.M.Encode.form_code
    (g.M.Machine.form_of self.machine) c.args.merge in
    record {
      steps = rw (← c.self.view_is) (c.push_reserved.ensures.items
          ∙ labelled_more label_of c.loop-one.steps.items self.successors.items c.loop-one.one-index c.one-item.result
          c.in_ok-label.label (rw c.deref-one-items.ensures.value at c.loop-one-test.true)
          (rw c.deref-one-items.ensures.value at c.one-item.is)
          (rw (← c.self.view_is) at c.loop-one.invariant.steps) c.in_ok-label.ensures);
      room = omega (arith, c.push_reserved.ensures.capacity, c.loop-one.invariant.room);
    }
