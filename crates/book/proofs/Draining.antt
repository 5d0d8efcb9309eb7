-- What is taken out of a list, one element after the other, is the list.
use Rattle.std.proofs.Common.{◌≡◌, ℕ, ◌-◌, List, [], ◌∷◌, ◌++◌, Option, None, length, ap, append-nil, arith, sym, ◌∙◌}
use Rattle.std.proofs.Common.{slice_range, take_all}
use Rattle.std.specs.Iterator.{Yields}
use Rattle.std.specs.Vec.Iter.{drain_items, drain_steps}
use Rattle.std.specs.declared.vec.Drain.{Drain}

module _ {A Z : Type 0} where
  front : (xs : List A) (s t : Drain A Z) → Yields (drain_steps {X = A} {Z = Z}) s xs t
      → drain_items s ≡ xs ++ drain_items t
  front [] s t run = ap drain_items run
  front (x ∷ xs) s t run = run.1.0 ∙ ap (λ ys. x ∷ ys) (front xs run.0 t run.2)

  pub all_drained : (all xs : List A) (n : ℕ) (r : Option A) (s t u : Drain A Z) → n ≡ length all
      → drain_items s ≡ slice_range all 0 n → Yields (drain_steps {X = A} {Z = Z}) s xs t → r ≡ None
      → drain_steps t r u → xs ≡ all
  all_drained all xs n r s t u len items run none last =
      let rest : drain_items t ≡ [] = (rw none at last).0 in
      sym (rw (rest, append-nil xs) at (front xs s t run)) ∙ items ∙ take_all (n - 0) all (omega arith)
