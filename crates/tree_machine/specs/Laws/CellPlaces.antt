-- The places of cells in an order.
use Rattle.std.proofs.Common.{◌≡◌, ℕ, zero, suc, false, List, [], ◌∷◌, map, refl, ap, arith, inl, inr}
use Rattle.std.specs.Prelude.{slice_get, Option, Some, nat_eq}
use Rattle.std.specs.List.{AllZip, zip, IsDistinct}
use Rattle.std.specs.Option.{option_and_then}
use Rattle.std.proofs.lemmas.Bool.Decides.{eqb_tells}
use Rattle.std.proofs.lemmas.Map.Keys.{IsDistinct-head, IsDistinct-tail, any_passes_from_place}
use Rattle.tree_machine.specs.Cells.{IsPairedOrNone, place_in}
use Rattle.tree_machine.specs.Pairing.{IsOneToOne, IsAmong}
use Rattle.tree_machine.specs.Laws.CellSteps.{at_paired, same_tests}
use Rattle.tree_machine.specs.Laws.CellOrder.{Has, all_has, has_itself}

module _ (P : ℕ → ℕ → Type 0) (one : IsOneToOne P) where
  -- paired elements have the same place
  place_paired : (xs ys : List ℕ) (a b : ℕ) → AllZip P xs ys → P a b → place_in xs a ≡ place_in ys b
  place_paired [] [] a b h p = refl
  place_paired (x ∷ xs) (y ∷ ys) a b h p =
      rw (same_tests a b x y (one a b x y p h.0), place_paired xs ys a b h.1 p)
  place_paired _ _ a b h p = absurd h

  pub refs_renamed : (xs ys : List ℕ) → AllZip P xs ys → (refs sefs : List (Option ℕ))
      → AllZip (IsPairedOrNone P) refs sefs
      → map (option_and_then (place_in xs)) refs ≡ map (option_and_then (place_in ys)) sefs
  refs_renamed xs ys z [] [] h = refl
  refs_renamed xs ys z (r ∷ refs) (s ∷ sefs) h = grind (arith, place_paired xs ys, refs_renamed xs ys z refs sefs h.1)
  refs_renamed xs ys z _ _ h = absurd h

-- what is in a list has a place there, and is at it
pub place_from_has : (xs : List ℕ) (x : ℕ) → Has xs x → (k : ℕ) × (place_in xs x ≡ Some k)
place_from_has [] x h = cc
place_from_has (y ∷ xs) x h =
    elim (eqb_tells x y) [
      | inl e ↦ (0, rw e.0 refl)
      | inr e ↦ let r = place_from_has xs x (rw e.0 at h) in (suc r.0, rw (e.0, r.1) refl)
    ]

pub get_place : (xs : List ℕ) (x k : ℕ) → place_in xs x ≡ Some k → slice_get xs k ≡ Some x
get_place [] x k h = cc
get_place (y ∷ xs) x zero h = grind arith
get_place (y ∷ xs) x (suc k) h = grind (arith, get_place xs x k)

pub has_at : (xs : List ℕ) (k x : ℕ) → slice_get xs k ≡ Some x → Has xs x
has_at xs k x h = any_passes_from_place (nat_eq x) xs k x h (has_itself x)

-- ---- two lists side by side, as pairs

pub among_at : (xs ys : List ℕ) (k x y : ℕ) → slice_get xs k ≡ Some x → slice_get ys k ≡ Some y
    → IsAmong (zip xs ys) x y
among_at [] ys k x y h g = cc
among_at (v ∷ xs) [] k x y h g = cc
among_at (v ∷ xs) (w ∷ ys) zero x y h g = inl (cc, cc)
among_at (v ∷ xs) (w ∷ ys) (suc k) x y h g = inr (among_at xs ys k x y h g)

pub at_among : (xs ys : List ℕ) (x y : ℕ) → IsAmong (zip xs ys) x y → (k : ℕ) × (slice_get xs k ≡ Some x)
    × (slice_get ys k ≡ Some y)
at_among [] ys x y h = absurd h
at_among (v ∷ xs) [] x y h = absurd h
at_among (v ∷ xs) (w ∷ ys) x y (inl e) = (0, ap Some e.0, ap Some e.1)
at_among (v ∷ xs) (w ∷ ys) x y (inr h) = let r = at_among xs ys x y h in (suc r.0, r.1, r.2)

pub rel_among : (P : ℕ → ℕ → Type 0) (xs ys : List ℕ) → AllZip P xs ys → (x y : ℕ) → IsAmong (zip xs ys) x y → P x y
rel_among P xs ys z x y h = let r = at_among xs ys x y h in rw (r.1, r.2) at (at_paired P xs ys r.0 z)

-- in a list of distinct numbers each has one place
pub place_at : (xs : List ℕ) → IsDistinct nat_eq xs → (k x : ℕ) → slice_get xs k ≡ Some x → place_in xs x ≡ Some k
place_at [] d k x h = cc
place_at (y ∷ xs) d zero x h = grind arith
place_at (y ∷ xs) d (suc k) x h =
    let apart = all_has (λ z. nat_eq y z ≡ false) xs (IsDistinct-head nat_eq y xs d) x (has_at xs k x h) in
    grind (arith, place_at xs (IsDistinct-tail nat_eq y xs d) k x h)

-- places of distinct numbers, side by side, are pairs one to one
pub zip_one : (xs ys : List ℕ) → IsDistinct nat_eq xs → IsDistinct nat_eq ys → IsOneToOne (IsAmong (zip xs ys))
zip_one xs ys here there x y a b h g =
    let p = at_among xs ys x y h in
    let q = at_among xs ys a b g in
    let px = place_at xs here p.0 x p.1 in
    let py = place_at ys there p.0 y p.2 in
    let qa = place_at xs here q.0 a q.1 in
    let qb = place_at ys there q.0 b q.2 in
    (λ e. cc, λ e. cc)
