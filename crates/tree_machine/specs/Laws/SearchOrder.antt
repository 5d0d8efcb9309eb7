-- Laws of search order.
use Rattle.std.specs.Prelude.{◌≡◌, ℕ, zero, suc, ◌+◌, ◌<◌, ◌≤◌, min, max, nat_lt, if◌then◌else◌, refl, Option, Some}
use Rattle.std.specs.Prelude.{None}
use Rattle.std.proofs.Common.{◌↔◌, arith}
use Rattle.tree_machine.specs.declared.search_order.Shape.{Shape}
use Rattle.tree_machine.specs.declared.search_order.Shape.TheVariants.{Leaf, Internal}
use Rattle.tree_machine.specs.SearchOrder.{IsNodeOrdered, IsOrderedWithin, IsOrdered, end_of}

module _ (shapes : ℕ → Option Shape) where
  -- what is in order has a key between its bounds
  pub apart : (levels low high x : ℕ) → IsOrderedWithin shapes levels low high x → low < high
  apart zero low high x h = absurd h
  apart (suc levels) low high x h = grind (arith, apart levels)

  -- more levels do no harm
  pub more_levels : (levels more low high x : ℕ) → levels ≤ more → IsOrderedWithin shapes levels low high x
      → IsOrderedWithin shapes more low high x
  more_levels zero more low high x le h = absurd h
  more_levels (suc levels) zero low high x le h = absurd (omega arith)
  more_levels (suc levels) (suc more) low high x le h = grind (arith, more_levels levels more)

  pub of_node : (levels low high x : ℕ) (shape : Option Shape) → shapes x ≡ shape
      → IsNodeOrdered (IsOrderedWithin shapes levels) low high shape → IsOrderedWithin shapes (suc levels) low high x
  of_node levels low high x shape e o = rw e o

  pub to_node : (levels low high x : ℕ) (shape : Option Shape) → shapes x ≡ shape
      → IsOrderedWithin shapes (suc levels) low high x → IsNodeOrdered (IsOrderedWithin shapes levels) low high shape
  to_node levels low high x shape e o = rw e at o

  below : (levels low high x : ℕ) (shape : Option Shape) → shapes x ≡ shape → IsOrderedWithin shapes levels low high x
      → (fewer : ℕ) × IsNodeOrdered (IsOrderedWithin shapes fewer) low high shape
  below zero low high x shape e o = absurd o
  below (suc levels) low high x shape e o = (levels, to_node levels low high x shape e o)

  pub none_is_ordered : (low high x : ℕ) → shapes x ≡ None → IsOrdered shapes low high x ↔ ⊥
  none_is_ordered low high x e = grind arith

  pub leaf_is_ordered : (low high x k : ℕ) → shapes x ≡ Some (Leaf k) → IsOrdered shapes low high x
      ↔ ((low ≤ k) × (k < high))
  leaf_is_ordered low high x k e = grind arith

  pub internal_is_ordered : (low high x m l r : ℕ) → shapes x ≡ Some (Internal m l r) →
      IsOrdered shapes low high x ↔ ((low < m) × (m < high) × IsOrdered shapes low m l × IsOrdered shapes m high r)
  internal_is_ordered low high x m l r e = (
    (λ o. let t = below o.levels low high x (Some (Internal m l r)) e o.within in
        let a = apart t.0 low (min m high) l t.1.0 in
        let b = apart t.0 (max m low) high r t.1.1 in
        grind arith),
    (λ o. let n = o.2.levels in let p = o.3.levels in
        let left = more_levels n (n + p) low m l (omega arith) o.2.within in
        let right = more_levels p (n + p) m high r (omega arith) o.3.within in
        record { levels = suc (n + p); within = grind arith }),
  )

  -- a search ends at a leaf, and where there is no node
  pub end_at_none : (k levels parent x : ℕ) → shapes x ≡ None
      → end_of shapes k levels parent x ≡ record { parent = parent; leaf = x }
  end_at_none k zero parent x e = refl
  end_at_none k (suc levels) parent x e = rw e

  pub end_at_leaf : (k levels parent x j : ℕ) → shapes x ≡ Some (Leaf j)
      → end_of shapes k levels parent x ≡ record { parent = parent; leaf = x }
  end_at_leaf k zero parent x j e = refl
  end_at_leaf k (suc levels) parent x j e = rw e

  -- and goes on from an internal node
  pub end_below : (k levels parent x m l r : ℕ) → shapes x ≡ Some (Internal m l r)
      → end_of shapes k (suc levels) parent x ≡ end_of shapes k levels x (if nat_lt k m then l else r)
  end_below k levels parent x m l r e = rw e
