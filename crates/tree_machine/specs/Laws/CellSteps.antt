-- Two walks over paired cells go in lock step.
use Rattle.std.proofs.Common.{◌≡◌, ℕ, zero, suc, ◌↔◌, false, List, [], ◌∷◌, refl, arith}
use Rattle.std.specs.Prelude.{slice_get, Option, nat_eq}
use Rattle.std.specs.List.{AllZip, list_any}
use Rattle.std.proofs.lemmas.List.Elements.{AllZip-push}
use Rattle.tree_machine.specs.Cells.{Content, IsPairedOrNone, IsPairing, met, met_all, met_in}
use Rattle.tree_machine.specs.Pairing.{IsOneToOne}

-- a number is not another one
pub is_other : (x y : ℕ) → (x ≡ y → ⊥) → nat_eq x y ≡ false
is_other x y h = grind arith

-- two tests agree where what they test is equal together
pub same_tests : (x y a b : ℕ) → (x ≡ a) ↔ (y ≡ b) → nat_eq x a ≡ nat_eq y b
same_tests x y a b h = grind arith

-- paired lists have, at each place, paired elements or none in both
pub at_paired : (P : ℕ → ℕ → Type 0) (xs ys : List ℕ) (n : ℕ) → AllZip P xs ys
    → IsPairedOrNone P (slice_get xs n) (slice_get ys n)
at_paired P [] [] n h = tt
at_paired P (x ∷ xs) (y ∷ ys) zero h = h.0
at_paired P (x ∷ xs) (y ∷ ys) (suc n) h = at_paired P xs ys n h.1
at_paired P _ _ n h = absurd h

module _ (P : ℕ → ℕ → Type 0) (one : IsOneToOne P) where
  -- pairs are met together
  has_paired : (xs ys : List ℕ) (a b : ℕ) → AllZip P xs ys → P a b → list_any (nat_eq a) xs ≡ list_any (nat_eq b) ys
  has_paired [] [] a b h p = refl
  has_paired (x ∷ xs) (y ∷ ys) a b h p = cc (same_tests a b x y (one a b x y p h.0), has_paired xs ys a b h.1 p)
  has_paired _ _ a b h p = absurd h

  met_paired : (xs ys : List ℕ) (a b : ℕ) → AllZip P xs ys → P a b → AllZip P (met xs a) (met ys b)
  met_paired xs ys a b h p = grind (arith, has_paired xs ys a b h p, AllZip-push P xs ys a b h p)

  met_all_paired : (refs sefs : List (Option ℕ)) (xs ys : List ℕ) → AllZip P xs ys
      → AllZip (IsPairedOrNone P) refs sefs → AllZip P (met_all xs refs) (met_all ys sefs)
  met_all_paired [] [] xs ys h p = h
  met_all_paired (r ∷ refs) (s ∷ sefs) xs ys h p = grind (arith, met_all_paired refs sefs, met_paired)
  met_all_paired _ _ xs ys h p = absurd p

module _ (P : ℕ → ℕ → Type 0) (cells others : List Content) (roots targets : List ℕ)
    (h : IsPairing P cells roots others targets) where
  -- two walks go in lock step
  pub met_in_paired : (n : ℕ) → AllZip P (met_in cells roots n) (met_in others targets n)
  met_in_paired zero = h.roots_paired
  met_in_paired (suc n) =
      let at = at_paired P (met_in cells roots n) (met_in others targets n) n (met_in_paired n) in
      grind (arith, met_all_paired P h.one_to_one, h.refs_paired, met_in_paired n)
