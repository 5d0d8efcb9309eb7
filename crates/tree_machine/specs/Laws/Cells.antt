-- Canonical forms are equal exactly where the cells can be paired.
use Rattle.std.proofs.Common.{◌≡◌, ℕ, zero, suc, ◌+◌, ◌↔◌, List, [], ◌∷◌, map, length, refl, ◌∙◌, ap, arith, add_comm}
use Rattle.std.specs.Prelude.{slice_get, Option, Some, None}
use Rattle.std.specs.List.{AllZip, zip}
use Rattle.std.specs.Option.{option_and_then}
use Rattle.tree_machine.specs.Cells.{Content, IsPairedOrNone, IsPairing, CanBePaired, IsRooted, met_in, content_at}
use Rattle.tree_machine.specs.Cells.{place_in, renamed, order_of, canonical}
use Rattle.tree_machine.specs.Pairing.{IsAmong}
use Rattle.tree_machine.specs.Laws.CellSteps.{met_in_paired}
use Rattle.tree_machine.specs.Laws.CellOrder.{HasAll, get_extends, met_in_order, met_in_stable}
use Rattle.tree_machine.specs.Laws.CellOrder.{met_in_extends, order_closed}
use Rattle.tree_machine.specs.Laws.CellPlaces.{refs_renamed, place_from_has, get_place, has_at, among_at, at_among}
use Rattle.tree_machine.specs.Laws.CellPlaces.{rel_among, zip_one}

-- ---- from a pairing to equal results

pub map_paired : {A B C : Type 0} (P : A → B → Type 0) (f : A → C) (g : B → C) → ((x : A) (y : B) → P x y → f x ≡ g y)
    → (xs : List A) (ys : List B) → AllZip P xs ys → map f xs ≡ map g ys
map_paired P f g h [] [] z = refl
map_paired P f g h (x ∷ xs) (y ∷ ys) z = cc (h x y z.0, map_paired P f g h xs ys z.1)
map_paired P f g h _ _ z = absurd z

module _ (P : ℕ → ℕ → Type 0) (cells others : List Content) (roots targets : List ℕ) (rooted : IsRooted cells roots)
    (aimed : IsRooted others targets) (h : IsPairing P cells roots others targets) where
  pub orders_paired : AllZip P (order_of cells roots) (order_of others targets)
  orders_paired =
      let m = length cells + length others in
      rw (
        met_in_stable cells roots rooted (length others),
        ap (met_in others targets) (add_comm (length cells) (length others)),
        met_in_stable others targets aimed (length cells),
      ) at (met_in_paired P cells others roots targets h m)

  pub equal_from_pairing : canonical cells roots ≡ canonical others targets
  equal_from_pairing =
      map_paired P _ _
      (λ x y p. cc (h.facts_equal x y p, refs_renamed P h.one_to_one _ _ orders_paired _ _ (h.refs_paired x y p)))
      (order_of cells roots) (order_of others targets) orders_paired

-- ---- from equal results to a pairing

pub unmap : {A B C : Type 0} (f : A → C) (g : B → C) (xs : List A) (ys : List B) → map f xs ≡ map g ys
    → AllZip (λ x y. f x ≡ g y) xs ys
unmap f g [] [] e = tt
unmap f g (x ∷ xs) (y ∷ ys) e = (cc, unmap f g xs ys (cc))
unmap f g _ _ e = cc

pub AllZip-weaker : {A B : Type 0} (P Q : A → B → Type 0) → ((x : A) (y : B) → P x y → Q x y)
    → (xs : List A) (ys : List B) → AllZip P xs ys → AllZip Q xs ys
AllZip-weaker P Q h [] [] z = tt
AllZip-weaker P Q h (x ∷ xs) (y ∷ ys) z = (h x y z.0, AllZip-weaker P Q h xs ys z.1)
AllZip-weaker P Q h _ _ z = absurd z

-- lists of one length are paired where their elements are at each place
zip_at_each : (P : ℕ → ℕ → Type 0) (xs ys : List ℕ) → length xs ≡ length ys
    → ((k x y : ℕ) → slice_get xs k ≡ Some x → slice_get ys k ≡ Some y → P x y) → AllZip P xs ys
zip_at_each P [] [] l h = tt
zip_at_each P (x ∷ xs) (y ∷ ys) l h = (h zero x y refl refl, zip_at_each P xs ys (omega arith) (λ k. h (suc k)))
zip_at_each P _ _ l h = absurd (omega arith)

pub refs_from_renamed : (xs ys : List ℕ) (refs sefs : List (Option ℕ)) → HasAll xs refs → HasAll ys sefs
    → map (option_and_then (place_in xs)) refs ≡ map (option_and_then (place_in ys)) sefs
    → AllZip (IsPairedOrNone (IsAmong (zip xs ys))) refs sefs
refs_from_renamed xs ys [] [] h g e = tt
refs_from_renamed xs ys (None ∷ refs) (None ∷ sefs) h g e = (tt, refs_from_renamed xs ys refs sefs h g (cc))
refs_from_renamed xs ys (None ∷ refs) (Some y ∷ sefs) h g e = let k = place_from_has ys y g.0 in cc k.1
refs_from_renamed xs ys (Some x ∷ refs) (None ∷ sefs) h g e = let k = place_from_has xs x h.0 in cc k.1
refs_from_renamed xs ys (Some x ∷ refs) (Some y ∷ sefs) h g e =
    let k = place_from_has xs x h.0 in
    let here = among_at xs ys k.0 x y (get_place xs x k.0 k.1) (get_place ys y k.0 (cc (e, k.1))) in
    (here, refs_from_renamed xs ys refs sefs h.1 g.1 (cc))
refs_from_renamed xs ys _ _ h g e = cc

module _ (cells others : List Content) (roots targets : List ℕ) (rooted : IsRooted cells roots)
    (aimed : IsRooted others targets) (l : length roots ≡ length targets) where
  -- the places of two orders that give equal results
  pairing_from_equal : canonical cells roots ≡ canonical others targets
      → IsPairing (IsAmong (zip (order_of cells roots) (order_of others targets))) cells roots others targets
  pairing_from_equal e =
      let xs = order_of cells roots in
      let ys = order_of others targets in
      let here = met_in_order cells roots rooted (length cells) in
      let there = met_in_order others targets aimed (length others) in
      let front_x = met_in_extends cells roots (length cells) in
      let front_y = met_in_extends others targets (length others) in
      let same = unmap (λ x. renamed xs (content_at cells x)) (λ y. renamed ys (content_at others y)) xs ys e in
      record {
        one_to_one = zip_one xs ys here.distinct there.distinct;
        in_range = λ x y h. grind (arith, at_among xs ys x y h, has_at, here.below x, there.below y);
        roots_paired = zip_at_each _ roots targets l (λ k x y h g.
            among_at xs ys k x y (get_extends front_x k x h) (get_extends front_y k y g));
        facts_equal = λ x y h. ap (λ c. c.facts) (rel_among _ xs ys same x y h);
        refs_paired = λ x y h.
            let alike = rel_among _ xs ys same x y h in
            grind (arith, at_among xs ys x y h, refs_from_renamed, order_closed);
      }

  -- two results are equal exactly if some set of pairs is a pairing
  pub canonical_exactly : (canonical cells roots ≡ canonical others targets) ↔ CanBePaired cells roots others targets
  canonical_exactly = grind (arith, pairing_from_equal, equal_from_pairing)

-- the answer of a walk that met this order
pub answer_is : (cells : List Content) (roots order : List ℕ) (answer : List Content) → order ≡ order_of cells roots
    → answer ≡ map (λ x. renamed order (content_at cells x)) order → answer ≡ canonical cells roots
answer_is cells roots order answer e h = h ∙ ap (λ o. map (λ x. renamed o (content_at cells x)) o) e

pub answer_exactly : (cells others : List Content) (roots targets order : List ℕ) (answer : List Content)
    → order ≡ order_of cells roots → answer ≡ map (λ x. renamed order (content_at cells x)) order → IsRooted cells roots
    → IsRooted others targets → length roots ≡ length targets →
    (answer ≡ canonical others targets) ↔ CanBePaired cells roots others targets
answer_exactly cells others roots targets order answer e h rooted aimed l =
    grind (arith, answer_is cells roots order answer e h, canonical_exactly)
