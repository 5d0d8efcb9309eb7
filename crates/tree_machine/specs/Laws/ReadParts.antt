-- Values that were read from the code of their parts, one behind the other.
use Rattle.std.proofs.Common.{◌≡◌, ℕ, zero, suc, ◌+◌, ◌<◌, List, [], ◌∷◌, ◌++◌, length, map, take, drop, refl}
use Rattle.std.proofs.Common.{append_assoc, append-nil, arith}
use Rattle.std.proofs.Math.Seq.{map-set_same}
use Rattle.std.specs.Prelude.{Option, slice_index_or, slice_set}
use Rattle.std.specs.List.{flat_map}
use Rattle.std.proofs.lemmas.Grind.{flat_map-append}
use Rattle.std.proofs.lemmas.List.{length-map, length_push, map-append, take_all, take_more_set}
use Rattle.tree_machine.specs.Alike.{places_of}
use Rattle.tree_machine.specs.Parts.{Part}
use Rattle.tree_machine.specs.Flat.{cell_code, part_codes, part_content}
use Rattle.tree_machine.specs.declared.state.Thread.{Thread}

pub drop_none : {X : Type 0} (n : ℕ) → drop {A = X} n [] ≡ []
drop_none zero = refl
drop_none (suc n) = refl

module _ {X : Type 0} (f : X → Part) where
  -- one value more is read
  pub one_read : (old more : List X) (x : X) (count : ℕ) (items after : List X) (bytes rest behind : List ℕ)
      → items ≡ old ++ more → length more ≡ count → bytes ≡ part_codes (map f more) ++ rest
      → after ≡ items ++ x ∷ [] → rest ≡ cell_code (part_content (f x)) ++ behind
      → (more : List X) × (after ≡ old ++ more) × (length more ≡ count + 1)
      × (bytes ≡ part_codes (map f more) ++ behind)
  one_read old more x count items after bytes rest behind e l b a r =
      grind (arith, append_assoc, length_push, map-append, flat_map-append, append-nil)

  -- all that was read comes in front
  pub take_read : (xs : List X) (count : ℕ) → length xs ≡ count → take count (map f xs) ≡ map f xs
  take_read xs count l = take_all count (map f xs) (omega (arith, length-map xs f))

-- ---- what the threads hold

-- one value more is read, and stored at its place
pub one_more_read : {X : Type 0} (code : X → List ℕ) (xs : List X) (i : ℕ) (x : X) (bytes rest behind : List ℕ)
    → i < length xs → bytes ≡ flat_map code (take i xs) ++ rest → rest ≡ code x ++ behind
    → bytes ≡ flat_map code (take (i + 1) (slice_set xs i x)) ++ behind
one_more_read code xs i x bytes rest behind within so_far next =
    rw (so_far, next) (simp (take_more_set xs i x within, flat_map-append, append_assoc))

-- where a value and its replacement have the same f, the list has the same map of f
pub kept_at : {X A : Type 0} (f : X → A) (xs : List X) (i : ℕ) (x d : X) → f x ≡ f (slice_index_or xs i d)
    → map f (slice_set xs i x) ≡ map f xs
kept_at f xs i x d same = map-set_same f xs i x d same

pub places_coded : {Place : Type 0} (f : Option Place → Part) (threads : List (Thread Place))
    → flat_map (λ thread. cell_code (part_content (f thread.place))) threads ≡ part_codes (map f (places_of threads))
places_coded f [] = refl
places_coded f (thread ∷ threads) = grind (arith, places_coded f threads)
