-- Each cell's place as its number, and few cells met, by the numbers that refer to them.
use Rattle.std.proofs.Common.{◌≡◌, ℕ, zero, suc, ◌+◌, ◌-◌, ◌<◌, Bool, false, true, cond, not, List, [], ◌∷◌, ◌++◌, map}
use Rattle.std.proofs.Common.{length, refl, sym, ◌∙◌, ap, subst, inl, inr, arith, get_or, set, take, append_assoc}
use Rattle.std.proofs.Common.{length-append, length-set, slice_get, replicate, Option, Some, None, nat_eq, IfSome}
use Rattle.std.specs.List.{All, IsDistinct, list_any}
use Rattle.std.specs.Option.{option_and_then, option_map}
use Rattle.std.proofs.Math.ListN.{get_or-map}
use Rattle.std.proofs.Math.Seq.{take-nil}
use Rattle.std.proofs.lemmas.Bool.{false_from_ne_true}
use Rattle.std.proofs.lemmas.Bool.Decides.{eqb_tells, nat_tests}
use Rattle.std.proofs.lemmas.List.{length-map, map_more, map-set}
use Rattle.std.proofs.lemmas.List.Elements.{All-append, All-push, All-weaker, recursion_from_All}
use Rattle.std.proofs.lemmas.List.Folds.{list_any_none}
use Rattle.std.proofs.lemmas.Option.{get_or_from_slice_get, slice_get-get_or, slice_get_within}
use Rattle.tree_machine.specs.Cells.{met, place_in, HasPlaces}
use Rattle.tree_machine.specs.Graphs.{numbers_from}
use Rattle.tree_machine.specs.Numbered.{referred_to, HasNumbers}
use Rattle.tree_machine.specs.declared.numbering.Numbering.{Numbering}
use Rattle.tree_machine.specs.Laws.CellLists.{distinct_none, numbers_all}
use Rattle.tree_machine.specs.Laws.CellOrder.{IsOrder, all_has, has_itself, met_order, length-order}
use Rattle.tree_machine.specs.Laws.CellPlaces.{get_place, has_at, place_from_has}
use Rattle.tree_machine.specs.Laws.CellSteps.{is_other}
use Rattle.tree_machine.specs.Laws.Graphs.{numbers_more}
use Rattle.tree_machine.proofs.Codings.{met_old}
use Rattle.tree_machine.proofs.Lists.{get-set_same, get-set_other}

-- ---- places

-- a cell with no place was not met
absent : (order : List ℕ) (x : ℕ) → place_in order x ≡ None → list_any (nat_eq x) order ≡ false
absent order x e = grind (arith, false_from_ne_true, nat_eq, place_from_has)

-- it is met by putting it at the end
pub met_new : (order : List ℕ) (x : ℕ) → place_in order x ≡ None → order ++ x ∷ [] ≡ met order x
met_new order x e = sym (ap (λ t. cond t order (order ++ x ∷ [])) (absent order x e))

-- and is there
place_push : (order : List ℕ) (x : ℕ) → list_any (nat_eq x) order ≡ false
    → place_in (order ++ x ∷ []) x ≡ Some (length order)
place_push [] x e = rw (has_itself x) refl
place_push (z ∷ order) x e =
    elim (eqb_tells x z) [
      | inl a ↦ let no = rw a.0 at e in cc
      | inr a ↦ rw a.0 (ap (option_map suc) (place_push order x (rw a.0 at e)))
    ]

-- other cells keep their places
place_kept : (order : List ℕ) (x y : ℕ) → (y ≡ x → ⊥) → place_in (order ++ x ∷ []) y ≡ place_in order y
place_kept [] x y h = rw (is_other y x h) refl
place_kept (z ∷ order) x y h = rw (place_kept order x y h) refl

-- a cell at the end gets its place as its number
places_push : (order : List ℕ) (numbers : List (Option ℕ)) (x : ℕ) → HasPlaces order numbers → x < length numbers
    → place_in order x ≡ None → HasPlaces (order ++ x ∷ []) (set numbers x (Some (length order)))
places_push order numbers x h l e k m =
    grind (arith, eqb_tells, get-set_same, place_push, absent, get-set_other, place_kept, length-set)

-- a cell that is met for the first time is at the end
pub place_new : (order : List ℕ) (x : ℕ) {n : ℕ} → place_in order x ≡ None → n ≡ length order
    → place_in (met order x) x ≡ Some n
place_new order x e is_length = grind (arith, met_new, place_push, absent)

module _ (order : List ℕ) (numbers : List (Option ℕ)) {x : ℕ} {r : Option ℕ} (h : HasPlaces order numbers)
    (l : x < length numbers) (e : r ≡ get_or numbers x r) where
  -- the number of a cell is its place
  number_is : r ≡ place_in order x
  number_is = cc (slice_get-get_or numbers x r l, h x l)

  -- a cell without a number has no place
  pub place_absent : r ≡ None → place_in order x ≡ None
  place_absent none = sym number_is ∙ none

  -- a cell with a number was met
  pub met_present : {k : ℕ} → r ≡ Some k → order ≡ met order x
  met_present {k} at = sym (met_old order x (has_at order k x (get_place order x k (sym number_is ∙ at))))

  -- and the number is its place
  pub place_seen : {k : ℕ} → r ≡ Some k → place_in (met order x) x ≡ Some k
  place_seen at = ap (λ o. place_in o x) (sym (met_present at)) ∙ sym number_is ∙ at

  -- the numbers after a cell was met for the first time
  pub places_met : {after : List ℕ} {n : ℕ} → r ≡ None → n ≡ length order → after ≡ order ++ x ∷ []
      → HasPlaces after (set numbers x (Some n))
  places_met none is_length is_after = grind (arith, places_push, place_absent)

-- the step of a loop that renames refs
module _ (order : List ℕ) {refs seen done : List (Option ℕ)} {i : ℕ} {s : Option ℕ} (same : seen ≡ refs)
    (l : i < length refs) (h : done ≡ map (option_and_then (place_in order)) (take i refs)) where
  -- by what the next ref is
  pub rename_next : s ≡ option_and_then (place_in order) (get_or seen i None)
      → done ++ s ∷ [] ≡ map (option_and_then (place_in order)) (take (i + 1) refs)
  rename_next f = let more = map_more (option_and_then (place_in order)) refs i None l in cc

  -- by the number of the cell that it names
  pub rename_some : (numbers : List (Option ℕ)) {x : ℕ} {r : Option ℕ} → HasPlaces order numbers
      → All (λ r. IfSome r (λ x. x < length numbers)) refs → get_or seen i None ≡ Some x → s ≡ r
      → r ≡ get_or numbers x r → done ++ s ∷ [] ≡ map (option_and_then (place_in order)) (take (i + 1) refs)
  rename_some numbers {x} places range e f g = grind (arith, rename_next, number_is)

-- ---- few cells met, by their numbers

-- a cell behind all that are met is appended
pub run_next : (old : List ℕ) (first i : ℕ) → All (λ x. x < first) old
    → met (old ++ numbers_from first i) (first + i) ≡ old ++ numbers_from first (i + 1)
run_next old first i h =
    let before =
    All-append (λ x. nat_eq (first + i) x ≡ false) old (numbers_from first i)
    (All-weaker (λ x. x < first) _ (λ x l. is_other (first + i) x (λ e. omega (arith, e))) old h)
    (numbers_all _ first i (λ x l k. is_other (first + i) x (λ e. omega (arith, e)))) in
    rw (list_any_none (nat_eq (first + i)) (old ++ numbers_from first i) before, numbers_more first i, append_assoc)
    refl

-- where no cell was met, each number is 0
pub nothing_met : {order numbers : List ℕ} (n : ℕ) → order ≡ [] → numbers ≡ replicate n 0 → HasNumbers order numbers
nothing_met n e f = simp (e, f) (go n)
  where
    go : (n x : ℕ) → x < length (map referred_to (replicate n 0))
        → slice_get (map referred_to (replicate n 0)) x ≡ Some None
    go zero x l = absurd (omega arith)
    go (suc n) zero l = refl
    go (suc n) (suc x) l = go n x (omega arith)

-- and it has no cell twice
pub nothing_twice : {order : List ℕ} → order ≡ [] → IsDistinct nat_eq order
nothing_twice e = subst (IsDistinct nat_eq) (sym e) distinct_none

-- nothing is met in a list that was rebuilt, or that is left as it was where its growth was refused
pub made_or_left : (t : Bool) {order old new : List ℕ} (n : ℕ) {len : ℕ} → order ≡ [] → old ≡ [] → len ≡ 0
    → new ≡ cond t (take n old ++ replicate (n - len) 0) old → HasNumbers order new
made_or_left true n is_none e z h = grind (arith, nothing_met, take-nil)
made_or_left false n is_none e z h = nothing_met 0 is_none (h ∙ e)

-- where a cell has no number, its number is 0
pub no_number : (numbers : List ℕ) {x r : ℕ} → x < length numbers → r ≡ get_or numbers x r → not (nat_eq r 0) ≡ false
    → slice_get numbers x ≡ Some 0
no_number numbers {x} {r} l e h =
    let none : r ≡ 0 = grind (arith, nat_tests) in slice_get-get_or numbers x r l ∙ ap Some (sym e ∙ none)

module _ (n : Numbering) where
  abbrev order : List ℕ
  order = n.order.items

  abbrev numbers : List ℕ
  numbers = n.numbers.items

  is_order : IsOrder (length numbers) order
  is_order = record {
    distinct = n.distinct;
    below = all_has (λ x. x < length numbers) order (recursion_from_All _ order n.known);
  }

  within : {x : ℕ} → x < length numbers → x < length (map referred_to numbers)
  within l = omega (arith, l, length-map numbers referred_to)

  -- the number of a cell refers to its place
  number_refers : {x r : ℕ} → x < length numbers → r ≡ get_or numbers x r → referred_to r ≡ place_in order x
  number_refers {x} {r} l e =
      number_is order (map referred_to numbers) n.has_numbers (within l)
      (ap referred_to e ∙ sym (get_or-map referred_to numbers x r))

  -- a cell has a number exactly where it was met
  pub has_number : (x r : ℕ) → x < length numbers → r ≡ get_or numbers x r
      → not (nat_eq r 0) ≡ list_any (nat_eq x) order
  has_number x zero l e = sym (absent order x (sym (number_refers l e)))
  has_number x (suc r) l e =
      ap not (is_other (suc r) 0 (λ e. omega (arith, e)))
      ∙ sym (has_at order r x (get_place order x r (sym (number_refers l e))))

  -- fewer than 255 are met
  pub order_bounded : length order < 255
  order_bounded = omega (arith, length-order (length numbers) order is_order, n.bounded)

  -- a byte is enough for the number of each
  pub number_bounded : (x r : ℕ) → x < length numbers → r ≡ get_or numbers x r → r < 255
  number_bounded x zero l e = omega arith
  number_bounded x (suc r) l e =
      omega (arith, slice_get_within order r x (get_place order x r (sym (number_refers l e))), order_bounded)

  -- a cell that is met for the first time
  module _ {x : ℕ} (known : x < length numbers) (absent : slice_get numbers x ≡ Some 0) where
    -- it has no place
    pub unmet : place_in order x ≡ None
    unmet = sym (number_refers known (sym (get_or_from_slice_get numbers x 0 0 absent)))

    -- once it is at the end, the order is still one of distinct cells
    pub next_order : {after : List ℕ} → after ≡ order ++ x ∷ [] → IsOrder (length numbers) after
    next_order is =
        rw (is ∙ met_new order x unmet) (met_order (length numbers) order x known is_order)

    -- of cells that there are
    pub next_known : {after : List ℕ} → after ≡ order ++ x ∷ [] → {m : ℕ} → m ≡ length numbers
        → All (λ y. y < m) after
    next_known is same = simp (is, same) (All-push (λ y. y < length numbers) order x n.known known)

    -- it is one more than those that are met
    pub order_room : length order < length numbers
    order_room =
        let most = length-order (length numbers) (order ++ x ∷ []) (next_order refl) in
        omega (arith, most, length-append order (x ∷ []))

    -- it gets a number
    pub next_numbers : {after : List ℕ} → after ≡ order ++ x ∷ [] → {place : ℕ} → place ≡ length order
        → HasNumbers after (set numbers x (place + 1))
    next_numbers is {place} is_length =
        let next : place + 1 ≡ suc (length order) = omega (arith, is_length) in
        simp (is, next, map-set)
        (places_push order (map referred_to numbers) x n.has_numbers (within known) unmet)

-- the places of a cell that is met, and what a cell is that gets a number
pub ruleset placed = (place_absent, met_present, met_new, place_seen, place_new, places_met)

pub ruleset assigned = (order_room, unmet, met_new)
