-- Lists of cells and of numbers, end to end, and walks of cells in front of others.
use Rattle.std.proofs.Common.{◌≡◌, ℕ, zero, suc, ◌+◌, ◌<◌, ◌≤◌, false, List, [], ◌∷◌, ◌++◌, map, length, ◌∙◌, ap, arith}
use Rattle.std.proofs.Common.{length-append, refl}
use Rattle.std.specs.Prelude.{slice_get, Option, Some, None, nat_eq}
use Rattle.std.specs.List.{AllZip, All, AllByRecursion, IsDistinct}
use Rattle.std.proofs.lemmas.List.Elements.{All-append, All-from_recursion, All-map}
use Rattle.std.proofs.lemmas.List.Elements.{recursion_from_All}
use Rattle.std.proofs.lemmas.List.{get_or_append_left, get_or-append-add}
use Rattle.std.proofs.lemmas.Map.Keys.{apart_from_distinct, IsDistinct-from_apart}
use Rattle.std.proofs.Math.Seq.{of_parts}
use Rattle.std.proofs.lemmas.Option.{unwrap_or-slice_get}
use Rattle.tree_machine.specs.Cells.{Content, IsRooted, content_at, met_all, visited, met_in, order_of}
use Rattle.tree_machine.specs.Graphs.{numbers_from}
use Rattle.tree_machine.specs.Laws.CellOrder.{IsOrder, met_in_order, met_in_stable}
use Rattle.tree_machine.specs.Laws.CellPlaces.{has_at}
use Rattle.tree_machine.specs.Laws.CellSteps.{same_tests}

-- ---- lists end to end

pub content_front : (xs ys : List Content) (x : ℕ) → x < length xs → content_at (xs ++ ys) x ≡ content_at xs x
content_front xs ys x l = simp unwrap_or-slice_get (get_or_append_left xs ys _ x l)

pub content_back : (xs ys : List Content) (i : ℕ) → content_at (xs ++ ys) (length xs + i) ≡ content_at ys i
content_back xs ys i = simp unwrap_or-slice_get (get_or-append-add xs ys i _)

pub zip_join : {A B : Type 0} (P : A → B → Type 0) (xs : List A) (ys : List B) (us : List A) (vs : List B)
    → AllZip P xs ys → AllZip P us vs → AllZip P (xs ++ us) (ys ++ vs)
zip_join P [] [] us vs z w = w
zip_join P (x ∷ xs) (y ∷ ys) us vs z w = (z.0, zip_join P xs ys us vs z.1 w)
zip_join P _ _ us vs z w = absurd z

pub numbers_zip : (P : ℕ → ℕ → Type 0) (a b n m : ℕ) → n ≡ m
    → ((i x y : ℕ) → i < n → x ≡ a + i → y ≡ b + i → P x y) → AllZip P (numbers_from a n) (numbers_from b m)
numbers_zip P a b zero zero many h = tt
numbers_zip P a b (suc n) (suc m) many h =
    (grind (arith, h 0 a b), numbers_zip P (suc a) (suc b) n m (omega arith) (λ i x y. grind (arith, h (suc i) x y)))
numbers_zip P a b _ _ many h = absurd (omega arith)

pub numbers_all : (P : ℕ → Type 0) (a n : ℕ) → ((x : ℕ) → a ≤ x → x < a + n → P x) → All P (numbers_from a n)
numbers_all P a n h = All-from_recursion P (numbers_from a n) (go a n h)
  where
    go : (a n : ℕ) → ((x : ℕ) → a ≤ x → x < a + n → P x) → AllByRecursion P (numbers_from a n)
    go a zero h = tt
    go a (suc n) h = (h a (omega arith) (omega arith), go (suc a) n (λ x l k. h x (omega arith) (omega arith)))

pub distinct_none : IsDistinct nat_eq []
unfolding IsDistinct
distinct_none = tt

-- distinct numbers from low on, below high
pub record AreDistinctIn (low high : ℕ) (xs : List ℕ) : Type 0 where
  pub distinct : IsDistinct nat_eq xs
  pub within : All (λ x. (low ≤ x) × (x < high)) xs

-- two such lists end to end
pub distinct_in_join : (a b c d : ℕ) (xs ys : List ℕ) → (a ≤ c) × (b ≤ c) × (b ≤ d) → AreDistinctIn a b xs
    → AreDistinctIn c d ys → AreDistinctIn a d (xs ++ ys)
distinct_in_join a b c d xs ys rise h g =
    let here = λ (i : ℕ) (j : ℕ) (e : ℕ). apart_from_distinct nat_eq xs i j e h.distinct in
    let there = λ (i : ℕ) (j : ℕ) (e : ℕ). apart_from_distinct nat_eq ys i j e g.distinct in
    grind (arith, IsDistinct-from_apart, of_parts, All-append)

pub distinct_in_row : (a n : ℕ) → AreDistinctIn a (a + n) (numbers_from a n)
unfolding IsDistinct
distinct_in_row a n =
    record { distinct = go a n; within = numbers_all (λ x. (a ≤ x) × (x < a + n)) a n (λ x l k. (l, k)) }
  where
    go : (a n : ℕ) → IsDistinct nat_eq (numbers_from a n)
    go a zero = tt
    go a (suc n) =
        let apart = numbers_all (λ x. nat_eq a x ≡ false) (suc a) n (λ x l k. grind arith) in
        (recursion_from_All _ _ apart, go (suc a) n)

-- distinct numbers stay distinct under a map that is one to one among them
pub mapped_distinct : (P : ℕ → Type 0) (f : ℕ → ℕ) → ((x y : ℕ) → P x → P y → f x ≡ f y → x ≡ y) → (xs : List ℕ)
    → AllByRecursion P xs → IsDistinct nat_eq xs → IsDistinct nat_eq (map f xs)
unfolding IsDistinct
mapped_distinct P f one [] a d = tt
mapped_distinct P f one (x ∷ xs) a d =
    let apart = λ (k : ℕ) (c : ℕ) (l : k < length xs).
    same_tests (f x) x _ _ (one x _ a.0 (All-from_recursion P xs a.1 k c l), λ e. ap f e)
    ∙ All-from_recursion (λ y. nat_eq x y ≡ false) xs d.0 k c l in
    (recursion_from_All _ _ (All-map (λ y. nat_eq (f x) y ≡ false) f xs apart), mapped_distinct P f one xs a.1 d.1)

-- and one whose numbers are all raised
pub distinct_in_raised : (n r : ℕ) (xs : List ℕ) → AreDistinctIn 0 r xs → AreDistinctIn n (n + r) (map (λ x. n + x) xs)
distinct_in_raised n r xs h = record {
  distinct =
      mapped_distinct (λ x. (0 ≤ x) × (x < r)) (λ x. n + x) (λ x y _ _ e. omega (arith, e)) xs
      (recursion_from_All _ xs h.within) h.distinct;
  within = All-map (λ x. (n ≤ x) × (x < n + r)) _ xs (λ k d l. omega (arith, h.within k d l));
}

-- ---- a walk goes the same way where other cells come behind

module _ (graph held : List Content) (roots : List ℕ) (h : IsRooted graph roots) where
  visited_front : (order : List ℕ) (n : ℕ) → IsOrder (length graph) order → (r : Option ℕ) → slice_get order n ≡ r
      → visited (graph ++ held) order r ≡ visited graph order r
  visited_front order n o None e = refl
  visited_front order n o (Some x) e =
      ap (λ c. met_all order c.refs) (content_front graph held x (o.below x (has_at order n x e)))

  met_in_front : (n : ℕ) → met_in (graph ++ held) roots n ≡ met_in graph roots n
  met_in_front zero = refl
  met_in_front (suc n) = grind (arith, met_in_front n, visited_front, met_in_order)

  pub order_front : order_of (graph ++ held) roots ≡ order_of graph roots
  order_front = grind (arith, length-append, met_in_front, met_in_stable)
