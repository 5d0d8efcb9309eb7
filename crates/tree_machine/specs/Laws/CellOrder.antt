-- The cells that a walk meets, in their order: distinct, in range, and closed.
use Rattle.std.proofs.Common.{◌≡◌, ℕ, zero, suc, ◌+◌, ◌<◌, ◌≤◌, true, List, [], ◌∷◌, ◌++◌, length, refl, sym, ap}
use Rattle.std.proofs.Common.{arith, append_assoc, add-suc, add-zero, get_or, append-nil}
use Rattle.std.specs.Prelude.{slice_get, Option, Some, None, nat_eq, ⊤, IfSome}
use Rattle.std.specs.Cmp.{IsEquivalence}
use Rattle.std.specs.List.{list_any, AllByRecursion, IsDistinct}
use Rattle.std.proofs.lemmas.Bool.{cases_lt, cond_both, eq-eqb}
use Rattle.std.proofs.lemmas.Cmp.{nat_eq_equiv}
use Rattle.std.proofs.lemmas.List.Elements.{recursion_from_All, All-get_or}
use Rattle.std.proofs.lemmas.List.Folds.{list_any-append}
use Rattle.std.proofs.lemmas.Map.Keys.{IsDistinct-push}
use Rattle.std.proofs.lemmas.Map.Steps.{length-le_from_distinct_below}
use Rattle.std.proofs.lemmas.Option.{slice_get_past, slice_get_within, slice_get-get_or, unwrap_or-slice_get}
use Rattle.std.proofs.Math.Bool.{or-true}
use Rattle.tree_machine.specs.Cells.{Content, met, met_all, visited, met_in, content_at, order_of, IsRooted}

-- x is in xs
abbrev pub Has : List ℕ → ℕ → Type 0
Has xs x = list_any (nat_eq x) xs ≡ true

-- each cell that refs name is in xs
abbrev pub HasAll : List ℕ → List (Option ℕ) → Type 0
HasAll xs [] = ⊤
HasAll xs (None ∷ refs) = HasAll xs refs
HasAll xs (Some x ∷ refs) = Has xs x × HasAll xs refs

-- ys is xs with more behind it
pub record Extends (xs ys : List ℕ) : Type 0 where
  pub rest : List ℕ
  pub is : ys ≡ xs ++ rest

pub extends_itself : (xs : List ℕ) → Extends xs xs
extends_itself xs = record { rest = []; is = sym (append-nil xs) }

pub extends_more : {xs ys zs : List ℕ} → Extends xs ys → Extends ys zs → Extends xs zs
extends_more e f = record { rest = e.rest ++ f.rest; is = rw (f.is, e.is, append_assoc) refl }

pub has_itself : (x : ℕ) → nat_eq x x ≡ true
has_itself x = eq-eqb x x refl

pub nat_equivalence : IsEquivalence nat_eq
nat_equivalence = nat_eq_equiv

pub has_extends : {xs ys : List ℕ} → Extends xs ys → (x : ℕ) → Has xs x → Has ys x
has_extends e x h = rw (e.is, list_any-append, h) refl

pub has_all_extends : {xs ys : List ℕ} → Extends xs ys → (refs : List (Option ℕ)) → HasAll xs refs → HasAll ys refs
has_all_extends e [] h = tt
has_all_extends e (r ∷ refs) h = grind (arith, has_extends e, has_all_extends e refs)

pub get_append : (xs zs : List ℕ) (k x : ℕ) → slice_get xs k ≡ Some x → slice_get (xs ++ zs) k ≡ Some x
get_append [] zs k x h = cc
get_append (y ∷ xs) zs zero x h = h
get_append (y ∷ xs) zs (suc k) x h = get_append xs zs k x h

pub get_extends : {xs ys : List ℕ} → Extends xs ys → (k x : ℕ) → slice_get xs k ≡ Some x → slice_get ys k ≡ Some x
get_extends {xs} e k x h = rw e.is (get_append xs e.rest k x h)

-- ---- one more cell

pub met_extends : (order : List ℕ) (x : ℕ) → Extends order (met order x)
met_extends order x = grind (arith, cond_both, extends_itself)

pub met_has : (order : List ℕ) (x : ℕ) → Has (met order x) x
met_has order x = grind (arith, cond_both, list_any-append, has_itself, or-true)

pub met_all_extends : (refs : List (Option ℕ)) (order : List ℕ) → Extends order (met_all order refs)
met_all_extends [] order = extends_itself order
met_all_extends (None ∷ refs) order = met_all_extends refs order
met_all_extends (Some x ∷ refs) order = extends_more (met_extends order x) (met_all_extends refs (met order x))

pub met_all_has : (refs : List (Option ℕ)) (order : List ℕ) → HasAll (met_all order refs) refs
met_all_has [] order = tt
met_all_has (r ∷ refs) order = grind (arith, met_all_has refs, has_extends, met_all_extends refs, met_has)

-- ---- distinct cells, each below n

pub record IsOrder (n : ℕ) (order : List ℕ) : Type 0 where
  pub distinct : IsDistinct nat_eq order
  pub below : (x : ℕ) → Has order x → x < n

pub met_order : (n : ℕ) (order : List ℕ) (x : ℕ) → x < n → IsOrder n order → IsOrder n (met order x)
met_order n order x l h = grind (arith, cond_both, IsDistinct-push, nat_equivalence, list_any-append)

-- each ref is none or below n
abbrev pub RefsBelow : ℕ → List (Option ℕ) → Type 0
RefsBelow n refs = AllByRecursion (λ r. IfSome r (λ x. x < n)) refs

pub met_all_order : (n : ℕ) (refs : List (Option ℕ)) (order : List ℕ) → RefsBelow n refs → IsOrder n order
    → IsOrder n (met_all order refs)
met_all_order n [] order l h = h
met_all_order n (None ∷ refs) order l h = met_all_order n refs order l.1 h
met_all_order n (Some x ∷ refs) order l h = met_all_order n refs (met order x) l.1 (met_order n order x l.0 h)

-- ---- the walk

pub length-order : (n : ℕ) (order : List ℕ) → IsOrder n order → length order ≤ n
length-order n order h = length-le_from_distinct_below order n h.distinct h.below

-- what holds of each element holds of one that is there
pub all_has : (P : ℕ → Type 0) (xs : List ℕ) → AllByRecursion P xs → (x : ℕ) → Has xs x → P x
all_has P [] h x g = cc
all_has P (y ∷ xs) h x g = grind (arith, h.0, all_has P xs h.1 x)

module _ (cells : List Content) (roots : List ℕ) (h : IsRooted cells roots) where
  refs_below : (x : ℕ) → RefsBelow (length cells) (content_at cells x).refs
  refs_below x = grind (arith, cases_lt, recursion_from_All, unwrap_or-slice_get, All-get_or, slice_get_past)

  visited_order : (order : List ℕ) (r : Option ℕ) → IsOrder (length cells) order
      → IsOrder (length cells) (visited cells order r)
  visited_order order None g = g
  visited_order order (Some x) g = met_all_order (length cells) (content_at cells x).refs order (refs_below x) g

  pub met_in_order : (n : ℕ) → IsOrder (length cells) (met_in cells roots n)
  met_in_order zero =
      grind (arith, all_has (λ x. x < length cells) roots (recursion_from_All _ roots h.roots_in_range))
  met_in_order (suc n) = visited_order (met_in cells roots n) _ (met_in_order n)

  -- after a visit for each cell there is nothing more to visit
  pub met_in_stable : (n : ℕ) → met_in cells roots (length cells + n) ≡ order_of cells roots
  met_in_stable zero = ap (met_in cells roots) (add-zero (length cells))
  met_in_stable (suc n) =
      let m = length cells + n in
      let short = length-order (length cells) (met_in cells roots m) (met_in_order m) in
      rw (add-suc (length cells) n, slice_get_past (met_in cells roots m) m (omega arith)) (met_in_stable n)

pub visited_extends : (cells : List Content) (order : List ℕ) (r : Option ℕ) → Extends order (visited cells order r)
visited_extends cells order None = extends_itself order
visited_extends cells order (Some x) = met_all_extends (content_at cells x).refs order

pub met_in_extends : (cells : List Content) (roots : List ℕ) (n : ℕ) → Extends roots (met_in cells roots n)
met_in_extends cells roots zero = extends_itself roots
met_in_extends cells roots (suc n) = grind (arith, met_in_extends cells roots n, extends_more, visited_extends)

-- the first n cells of the order have all their refs in it
abbrev IsClosedBelow : List Content → ℕ → List ℕ → Type 0
IsClosedBelow cells n order = (k x : ℕ) → k < n → slice_get order k ≡ Some x → HasAll order (content_at cells x).refs

visited_closed : (cells : List Content) (n : ℕ) (order : List ℕ) → IsClosedBelow cells n order → (r : Option ℕ)
    → slice_get order n ≡ r → IsClosedBelow cells (suc n) (visited cells order r)
visited_closed cells n order h None at k x l g = grind (arith, h k x)
visited_closed cells n order h (Some z) at k x l g =
    let more = visited_extends cells order (Some z) in
    let far = slice_get_within order n z at in
    let there = slice_get-get_or order k x (omega arith) in
    let here : slice_get order k ≡ Some x = cc (there, get_extends more k (get_or order k x) there, g) in
    grind (arith, h k x, has_all_extends more (content_at cells x).refs, met_all_has (content_at cells z).refs order)

pub met_in_closed : (cells : List Content) (roots : List ℕ) (n : ℕ) → IsClosedBelow cells n (met_in cells roots n)
met_in_closed cells roots zero = λ k x l. absurd (omega arith)
met_in_closed cells roots (suc n) = visited_closed cells n (met_in cells roots n) (met_in_closed cells roots n) _ refl

-- each cell of the order has all its refs in it
pub order_closed : (cells : List Content) (roots : List ℕ) → IsRooted cells roots → (k x : ℕ)
    → slice_get (order_of cells roots) k ≡ Some x → HasAll (order_of cells roots) (content_at cells x).refs
order_closed cells roots h k x at =
    let short = length-order (length cells) _ (met_in_order cells roots h (length cells)) in
    met_in_closed cells roots (length cells) k x (omega (arith, slice_get_within _ k x at)) at
