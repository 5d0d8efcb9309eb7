-- A key is inserted into a list of nodes: behind them come a leaf for the key and an internal node over it, which takes
-- the place of the leaf where the search for the key ends.
use Rattle.std.proofs.Common.{arith, sym, ◌∙◌, ap, ◌⊎◌, inl, inr, ◌≡◌, ◌≢◌, ℕ, ◌+◌, ◌<◌, ◌≤◌, min, max, if◌then◌else◌}
use Rattle.std.proofs.Common.{nat_lt, List, ◌++◌, length, refl, Option, Some, unwrap_or, slice_get, slice_set}
use Rattle.std.specs.Option.{option_map}
use Rattle.std.proofs.lemmas.Bool.{cases_lt}
use Rattle.std.proofs.lemmas.Option.{slice_get_within}
use Rattle.tree_machine.specs.declared.search_order.End.{End}
use Rattle.tree_machine.specs.declared.search_order.Shape.{Shape}
use Rattle.tree_machine.specs.declared.search_order.Shape.TheVariants.{Leaf, Internal}
use Rattle.tree_machine.specs.declared.search_order.Side.{Side}
use Rattle.tree_machine.specs.declared.search_order.Side.TheVariants.{Left, Right}
use Rattle.tree_machine.specs.SearchOrder.{side_of, IsOrderedWithin}
use Rattle.tree_machine.specs.Laws.Decoded.{map_some}
use Rattle.tree_machine.specs.Laws.InitialKeys.{IsPutIn}
use Rattle.tree_machine.specs.Laws.SearchOrder.{of_node}
use Rattle.tree_machine.specs.Laws.MetLists.{test_node, test_other}
use Rattle.tree_machine.proofs.Lists.{slice_get-set, get-set_same, get-set_other, get-append_left, get-append_right}
use Rattle.tree_machine.proofs.Lists.{get-append_cases}

abbrev pub key_of : Shape → ℕ
key_of (Leaf k) = k
key_of (Internal k l r) = k

-- a node with another child; a leaf has none
abbrev pub over_child : Side → ℕ → Shape → Shape
over_child s x (Leaf k) = Leaf k
over_child Left x (Internal k l r) = Internal k x r
over_child Right x (Internal k l r) = Internal k l x

-- an internal node over the leaf x of key k and the leaf y of key j, the smaller key on the left
abbrev pub over_both : ℕ → ℕ → ℕ → ℕ → Shape
over_both k j x y = if nat_lt k j then Internal j x y else Internal k y x

no_leaf : (s : Side) (m l r x i : ℕ) → over_child s x (Internal m l r) ≡ Leaf i → ⊥
no_leaf Left m l r x i e = cc
no_leaf Right m l r x i e = cc

-- nodes that a search sees by their shapes, and whose children can be replaced
module _ {Node : Type 0} (leaf : Node) (shape_in : Node → Shape) (key_in : Node → ℕ)
    (with_child : Side → ℕ → Node → Node) (key_is : (node : Node) → key_in node ≡ key_of (shape_in node))
    (child_is : (s : Side) (x : ℕ) (node : Node) → shape_in (with_child s x node)
    ≡ over_child s x (shape_in node)) where
  abbrev seen : List Node → ℕ → Option Shape
  seen nodes x = option_map shape_in (slice_get nodes x)

  abbrev key_at : List Node → ℕ → ℕ
  key_at nodes x = key_in (unwrap_or (slice_get nodes x) leaf)

  key_seen : (nodes : List Node) (x : ℕ) (s : Shape) → seen nodes x ≡ Some s → key_at nodes x ≡ key_of s
  key_seen nodes x s e = grind (arith, map_some, unwrap_or)

  -- what is seen in a list is seen in front of more, and behind others
  in_front : (nodes more : List Node) (x : ℕ) (s : Shape) → seen nodes x ≡ Some s → seen (nodes ++ more) x ≡ Some s
  in_front nodes more x s e = grind (arith, map_some, get-append_left)

  behind : (nodes more : List Node) (i : ℕ) (s : Shape) → seen more i ≡ Some s
      → seen (nodes ++ more) (length nodes + i) ≡ Some s
  behind nodes more i s e = grind (arith, map_some, get-append_right)

  -- among new nodes there is first a leaf for the key, and an internal node over it and over the other leaf: that where
  -- the search ends, or a copy of it
  pub record AreOver (nodes more : List Node) (key leaf_key leaf_at other new : ℕ) : Type 0 where
    pub own : seen more 0 ≡ Some (Leaf key)
    pub over : seen more new ≡ Some (over_both key leaf_key (length nodes) other)
    pub beside : (other ≡ leaf_at) ⊎ ((x : ℕ) × (other ≡ length nodes + x) × (seen more x ≡ Some (Leaf leaf_key)))
    pub leaves : (i x : ℕ) → seen more x ≡ Some (Leaf i) → (i ≡ key) ⊎ (i ≡ leaf_key)

  module _ (nodes more : List Node) (key : ℕ) (end : End) (other new : ℕ)
      (are : AreOver nodes more key (key_at nodes end.leaf) end.leaf other new) where
    abbrev parent : Node
    parent = with_child (side_of key (key_at nodes end.parent)) (length nodes + new)
        (unwrap_or (slice_get (nodes ++ more) end.parent) leaf)

    abbrev after : ℕ → Option Shape
    after = seen (slice_set (nodes ++ more) end.parent parent)

    other_than : (x : ℕ) → (x ≡ end.parent → ⊥) → after x ≡ seen (nodes ++ more) x
    other_than x differ = ap (option_map shape_in) (get-set_other (nodes ++ more) end.parent x parent differ)

    kept : (x : ℕ) (s : Shape) → (x ≡ end.parent → ⊥) → seen nodes x ≡ Some s → after x ≡ Some s
    kept x s differ e = other_than x differ ∙ in_front nodes more x s e

    within : (x : ℕ) (s : Shape) → seen nodes x ≡ Some s → x < length nodes
    within x s e = let t = map_some shape_in (slice_get nodes x) s e in slice_get_within nodes x t.0 t.1

    parent_then : (s : Shape) → seen nodes end.parent ≡ Some s
        → after end.parent ≡ Some (over_child (side_of key (key_of s)) (length nodes + new) s)
    parent_then s e =
        let t = map_some shape_in (slice_get (nodes ++ more) end.parent) s (in_front nodes more end.parent s e) in
        let there = slice_get_within (nodes ++ more) end.parent t.0 t.1 in
        rw (get-set_same (nodes ++ more) end.parent parent there, child_is, t.1, key_seen nodes end.parent s e, ← t.2)
        refl

    left : (m l r : ℕ) → seen nodes end.parent ≡ Some (Internal m l r) → key < m
        → after end.parent ≡ Some (Internal m (length nodes + new) r)
    left m l r e below = rw (test_node m key below) at (parent_then (Internal m l r) e)

    right : (m l r : ℕ) → seen nodes end.parent ≡ Some (Internal m l r) → m ≤ key
        → after end.parent ≡ Some (Internal m l (length nodes + new))
    right m l r e above = rw (test_other m key above) at (parent_then (Internal m l r) e)

    fresh : (i x : ℕ) (s : Shape) → x ≡ length nodes + i → end.parent < length nodes → seen more i ≡ Some s
        → after x ≡ Some s
    fresh i x s e below is = other_than x (λ same. absurd (omega arith)) ∙ rw e (behind nodes more i s is)

    other_leaf : (m l r j : ℕ) → seen nodes end.parent ≡ Some (Internal m l r) → seen nodes end.leaf ≡ Some (Leaf j)
        → after other ≡ Some (Leaf j)
    other_leaf m l r j e at = grind (arith, kept, key_seen, fresh, within)

    over : (m l r j low high : ℕ) → seen nodes end.parent ≡ Some (Internal m l r)
        → seen nodes end.leaf ≡ Some (Leaf j) → key ≢ j → low ≤ key → key < high → low ≤ j → j < high
        → IsOrderedWithin after 2 low high (length nodes + new)
    over m l r j low high e at differ a b c d =
        let n = length nodes in
        let below = within end.parent (Internal m l r) e in
        let first = fresh 0 n (Leaf key) (omega arith) below are.own in
        let second = other_leaf m l r j e at in
        let third : after (n + new) ≡ Some (over_both key j n other) =
        rw (key_seen nodes end.leaf (Leaf j) at) at (fresh new (n + new) _ refl below are.over) in
        elim (cases_lt key j) [
          | inl t ↦
              of_node after 1 low high (n + new) (Some (Internal j n other)) (rw (test_node j key t) at third) (
                of_node after 0 low (min j high) n (Some (Leaf key)) first (a, omega arith),
                of_node after 0 (max j low) high other (Some (Leaf j)) second (omega arith, d),
              )
          | inr t ↦
              of_node after 1 low high (n + new) (Some (Internal key other n)) (rw (test_other j key t) at third) (
                of_node after 0 low (min key high) other (Some (Leaf j)) second (c, omega arith),
                of_node after 0 (max key low) high n (Some (Leaf key)) first (omega arith, b),
              )
        ]

    leaves : (m l r i j x : ℕ) → seen nodes end.parent ≡ Some (Internal m l r) → seen nodes end.leaf ≡ Some (Leaf j)
        → after x ≡ Some (Leaf i) → (i ≡ key) ⊎ ((y : ℕ) × (seen nodes y ≡ Some (Leaf i)))
    leaves m l r i j x e at is =
        let t = map_some shape_in (slice_get (slice_set (nodes ++ more) end.parent parent) x) (Leaf i) is in
        elim (slice_get-set (nodes ++ more) end.parent parent x t.0 t.1) [
          | inl v ↦ absurd (let both = sym is ∙ (ap after v.0 ∙ parent_then (Internal m l r) e) in
              no_leaf (side_of key m) m l r (length nodes + new) i cc)
          | inr old ↦ elim (get-append_cases nodes more x t.0 old) [
            | inl before ↦ inr (x, ap (option_map shape_in) before ∙ ap Some (sym t.2))
            | inr u ↦ elim (are.leaves i u.0 (ap (option_map shape_in) u.2 ∙ ap Some (sym t.2))) [
              | inl same ↦ inl same
              | inr same ↦ inr
                  (end.leaf, at ∙ ap (λ k. Some (Leaf k)) (sym (same ∙ key_seen nodes end.leaf (Leaf j) at)))
            ]
          ]
        ]

    pub put_over : IsPutIn (seen nodes) after key end
    put_over =
        record { new = length nodes + new; kept = kept; left = left; right = right; over = over; leaves = leaves }
