-- What a thread holds, as a part.
use Rattle.std.proofs.Common.{◌≡◌, ℕ, zero, suc, ◌<◌, List, [], ◌∷◌, map, length, Option, refl, sym, ap, ◌∙◌, subst}
use Rattle.std.proofs.Common.{arith, get_or}
use Rattle.tree_machine.specs.Alike.{places_of}
use Rattle.tree_machine.specs.Parts.{Part, part_at}
use Rattle.tree_machine.specs.declared.state.Thread.{Thread}

module _ {Place : Type 0} (f : Option Place → Part) where
  held_part_at : (threads : List (Thread Place)) (i : ℕ) (d : Thread Place) → i < length (map f (places_of threads))
      → part_at (map f (places_of threads)) i ≡ f (get_or threads i d).place
  held_part_at [] i d l = absurd (omega arith)
  held_part_at (t ∷ threads) zero d l = refl
  held_part_at (t ∷ threads) (suc i) d l = held_part_at threads i d (omega arith)

  module _ (P : Part → Type 0) (threads : List (Thread Place)) (i : ℕ) (d : Thread Place)
      (within : i < length (map f (places_of threads))) {place : Option Place}
      (is : (get_or threads i d).place ≡ place) where
    pub from_held : P (part_at (map f (places_of threads)) i) → P (f place)
    from_held = subst P (held_part_at threads i d within ∙ ap f is)

    pub to_held : P (f place) → P (part_at (map f (places_of threads)) i)
    to_held = subst P (sym (held_part_at threads i d within ∙ ap f is))
