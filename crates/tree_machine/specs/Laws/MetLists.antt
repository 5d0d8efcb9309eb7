-- Lists of the nodes and of the records that are met: distinct, in range, and paired where the orders are.
use Rattle.std.proofs.Common.{◌≡◌, ◌≢◌, ℕ, zero, suc, ◌+◌, ◌<◌, ◌≤◌, ◌⊎◌, Bool, true, false, ◌&&◌}
use Rattle.std.proofs.Common.{List, [], ◌∷◌, ◌++◌, map, length, refl, arith, zero-add}
use Rattle.std.specs.Prelude.{slice_get, Option, Some, nat_eq, nat_lt, nat_le}
use Rattle.std.specs.List.{AllZip, AllByRecursion, filter, zip, IsDistinct}
use Rattle.std.specs.Option.{option_and_then}
use Rattle.std.proofs.lemmas.Bool.Decides.{Decides-eqb}
use Rattle.std.proofs.lemmas.List.Kept.{AllPairs-filter}
use Rattle.std.proofs.lemmas.Map.Made.{AllPairs-from_IsDistinct, IsDistinct-from_AllPairs}
use Rattle.std.proofs.lemmas.Option.{slice_get_within}
use Rattle.tree_machine.specs.Cells.{IsPairedOrNone, place_in}
use Rattle.tree_machine.specs.Pairing.{IsOneToOne, IsAmong}
use Rattle.tree_machine.specs.Graphs.{numbers_from}
use Rattle.tree_machine.specs.Canonical.{nodes_met, records_met, as_cells}
use Rattle.tree_machine.specs.Laws.CellLists.{mapped_distinct, distinct_in_row}
use Rattle.tree_machine.specs.Laws.CellOrder.{Has, HasAll}
use Rattle.tree_machine.specs.Laws.CellPlaces.{among_at, at_among, place_from_has, get_place, zip_one}

-- ---- each number with its place

pub number_at : (a n i : ℕ) → i < n → slice_get (numbers_from a n) i ≡ Some (a + i)
number_at a zero i l = absurd (omega arith)
number_at a (suc n) zero l = grind arith
number_at a (suc n) (suc i) l = grind (arith, number_at (suc a) n i)

-- a number below n is at its own place among them
pub own_number : {n : ℕ} (x : ℕ) → x < n → slice_get (numbers_from 0 n) x ≡ Some x
own_number {n} x l = rw (number_at, zero-add)

-- the numbers of a list, each with its place
abbrev pub places : List ℕ → List (ℕ × ℕ)
places xs = zip xs (numbers_from 0 (length xs))

pub among_places : (xs : List ℕ) (x k : ℕ) → slice_get xs k ≡ Some x → IsAmong (places xs) x k
among_places xs x k h = among_at xs _ k x k h (own_number k (slice_get_within xs k x h))

pub places_among : (xs : List ℕ) (x k : ℕ) → IsAmong (places xs) x k → slice_get xs k ≡ Some x
places_among xs x k h = grind (arith, at_among, own_number, slice_get_within)

pub places_one : (xs : List ℕ) → IsDistinct nat_eq xs → IsOneToOne (IsAmong (places xs))
places_one xs d = zip_one xs _ d (distinct_in_row 0 (length xs)).distinct

-- names that are all in a list are paired with their places
pub refs_placed : (xs : List ℕ) (refs : List (Option ℕ)) → HasAll xs refs
    → AllZip (IsPairedOrNone (IsAmong (places xs))) refs (map (option_and_then (place_in xs)) refs)
refs_placed xs [] h = tt
refs_placed xs (r ∷ refs) h = grind (arith, place_from_has, get_place, among_places xs, refs_placed xs refs)

-- ---- what a filter keeps

pub filter_distinct : (p : ℕ → Bool) (xs : List ℕ) → IsDistinct nat_eq xs → IsDistinct nat_eq (filter p xs)
filter_distinct p xs d =
    IsDistinct-from_AllPairs Decides-eqb _
    (AllPairs-filter (λ x y. x ≢ y) p xs (AllPairs-from_IsDistinct Decides-eqb xs d))

pub filter_none : (p : ℕ → Bool) (xs : List ℕ) → AllByRecursion (λ x. p x ≡ false) xs → filter p xs ≡ []
filter_none p [] h = refl
filter_none p (x ∷ xs) h = rw h.0 (filter_none p xs h.1)

-- both numbers pass and R pairs them, or neither passes
abbrev pub PassAlike : (ℕ → Bool) → (ℕ → Bool) → (ℕ → ℕ → Type 0) → ℕ → ℕ → Type 0
PassAlike p q R x y = ((p x ≡ true) × (q y ≡ true) × R x y) ⊎ ((p x ≡ false) × (q y ≡ false))

pub filter_zip : (Q R : ℕ → ℕ → Type 0) (p q : ℕ → Bool) → ((x y : ℕ) → Q x y → PassAlike p q R x y)
    → (xs ys : List ℕ) → AllZip Q xs ys → AllZip R (filter p xs) (filter q ys)
filter_zip Q R p q h [] [] z = tt
filter_zip Q R p q h (x ∷ xs) (y ∷ ys) z = grind (arith, h x y z.0, filter_zip Q R p q h xs ys z.1)
filter_zip Q R p q h _ _ z = absurd z

pub map_zip : {A B C D : Type 0} (P : C → D → Type 0) (f : A → C) (g : B → D) (xs : List A) (ys : List B)
    → AllZip (λ x y. P (f x) (g y)) xs ys → AllZip P (map f xs) (map g ys)
map_zip P f g [] [] z = tt
map_zip P f g (x ∷ xs) (y ∷ ys) z = (z.0, map_zip P f g xs ys z.1)
map_zip P f g _ _ z = absurd z

-- ---- numbers of nodes, and of records behind n nodes

abbrev pub is_node : ℕ → ℕ → Bool
is_node n x = nat_lt x n

abbrev pub is_record : ℕ → ℕ → ℕ → Bool
is_record n r x = nat_le n x && nat_lt x (n + r)

pub test_node : (n x : ℕ) → x < n → nat_lt x n ≡ true
test_node n x l = grind arith

pub test_other : (n x : ℕ) → n ≤ x → nat_lt x n ≡ false
test_other n x l = grind arith

pub test_record : (n r x : ℕ) → n ≤ x → x < n + r → (nat_le n x && nat_lt x (n + r)) ≡ true
test_record n r x l k = grind arith

pub test_before : (n r x : ℕ) → x < n → (nat_le n x && nat_lt x (n + r)) ≡ false
test_before n r x l = grind arith

pub test_behind : (n r x : ℕ) → n + r ≤ x → (nat_le n x && nat_lt x (n + r)) ≡ false
test_behind n r x l = grind arith

-- ---- the nodes and the records that are met

module _ (n : ℕ) where
  pub node_has : (order : List ℕ) (x : ℕ) → Has (nodes_met n order) x → Has order x × (x < n)
  node_has [] x h = cc
  node_has (y ∷ order) x h = grind (arith, node_has order x)

  pub has_node : (order : List ℕ) (x : ℕ) → Has order x → x < n → Has (nodes_met n order) x
  has_node [] x h l = h
  has_node (y ∷ order) x h l = grind (arith, has_node order x)

  pub nodes_below : (order : List ℕ) → AllByRecursion (λ x. x < n) (nodes_met n order)
  nodes_below [] = tt
  nodes_below (x ∷ order) = grind (arith, nodes_below order)

  pub record_has : (order : List ℕ) (r y : ℕ) → Has (records_met n r order) y → Has order (n + y) × (y < r)
  record_has [] r y h = cc
  record_has (x ∷ order) r y h = grind (arith, record_has order r y)

  pub has_record : (order : List ℕ) (r y : ℕ) → Has order (n + y) → y < r → Has (records_met n r order) y
  has_record [] r y h l = h
  has_record (x ∷ order) r y h l = grind (arith, has_record order r y)

  pub records_below : (order : List ℕ) (r : ℕ) → AllByRecursion (λ y. y < r) (records_met n r order)
  records_below [] r = tt
  records_below (x ∷ order) r = grind (arith, records_below order r)

  kept_behind : (order : List ℕ) (r : ℕ) → AllByRecursion (λ x. n ≤ x) (filter (is_record n r) order)
  kept_behind [] r = tt
  kept_behind (x ∷ order) r = grind (arith, kept_behind order r)

  pub records_distinct : (order : List ℕ) (r : ℕ) → IsDistinct nat_eq order → IsDistinct nat_eq (records_met n r order)
  records_distinct order r d = grind (arith, mapped_distinct, kept_behind, filter_distinct)

-- ---- nodes and records in front of other cells

module _ (n r : ℕ) where
  pub nodes_first : (nodes records zs : List ℕ) → AllByRecursion (λ x. x < n) nodes
      → nodes_met n (as_cells n nodes records ++ zs) ≡ nodes ++ nodes_met n zs
  nodes_first [] [] zs h = refl
  nodes_first [] (y ∷ records) zs h = grind (arith, nodes_first [] records zs h)
  nodes_first (x ∷ nodes) records zs h = grind (arith, nodes_first nodes records zs h.1, h.0)

  pub records_first : (nodes records zs : List ℕ) → AllByRecursion (λ x. x < n) nodes
      → AllByRecursion (λ y. y < r) records
      → records_met n r (as_cells n nodes records ++ zs) ≡ records ++ records_met n r zs
  records_first [] [] zs h g = refl
  records_first [] (y ∷ records) zs h g = grind (arith, records_first [] records zs h g.1, g.0)
  records_first (x ∷ nodes) records zs h g = grind (arith, records_first nodes records zs h.1 g, h.0)
