-- Memories whose paired nodes are seen alike keep search order, or neither does.
use Rattle.std.specs.Prelude.{◌≡◌, ◌↔◌, ℕ, zero, suc, Option, Some, None}
use Rattle.std.proofs.Common.{arith}
use Rattle.tree_machine.specs.declared.search_order.Shape.{Shape}
use Rattle.tree_machine.specs.declared.search_order.Shape.TheVariants.{Leaf, Internal}
use Rattle.tree_machine.specs.SearchOrder.{IsOrderedWithin, KeepsSearchOrder}

-- no node in both, or the same kind and key, and children that P pairs, side by side
abbrev pub AreShapesPaired : (ℕ → ℕ → Type 0) → Option Shape → Option Shape → Type 0
AreShapesPaired P None None = Unit {0}
AreShapesPaired P (Some (Leaf k)) (Some (Leaf j)) = k ≡ j
AreShapesPaired P (Some (Internal k l r)) (Some (Internal j m s)) = (k ≡ j) × P l m × P r s
AreShapesPaired P _ _ = ⊥

module _ (P : ℕ → ℕ → Type 0) where
  module _ (shapes others : ℕ → Option Shape) (seen : (x y : ℕ) → P x y → AreShapesPaired P (shapes x) (others y)) where
    within_order : (levels low high x y : ℕ) → P x y → IsOrderedWithin shapes levels low high x
        ↔ IsOrderedWithin others levels low high y
    within_order zero low high x y p = ((λ o. o), (λ o. o))
    within_order (suc levels) low high x y p = grind (arith, within_order levels)

    pub search_order_paired : P 0 0 → KeepsSearchOrder shapes ↔ KeepsSearchOrder others
    search_order_paired root = grind (arith, within_order)
