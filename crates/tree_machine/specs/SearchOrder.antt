-- Search order of a tree, and the way of a search down to a leaf, by what a search sees of the nodes.
use Rattle.std.specs.Prelude.{ℕ, zero, suc, ◌<◌, ◌≤◌, min, max, nat_lt, if◌then◌else◌, Option, Some, None}
use Rattle.tree_machine.specs.declared.search_order.Side.{Side}
use Rattle.tree_machine.specs.declared.search_order.Side.TheVariants.{Left, Right}
use Rattle.tree_machine.specs.declared.search_order.Shape.{Shape}
use Rattle.tree_machine.specs.declared.search_order.Shape.TheVariants.{Leaf, Internal}
use Rattle.tree_machine.specs.declared.search_order.End.{End}

-- the side of a node of key m on which key k is looked for
abbrev pub side_of : ℕ → ℕ → Side
side_of k m = if nat_lt k m then Left else Right

-- a node is in order between low and high, where IsOrderedBelow says it of its children
abbrev pub IsNodeOrdered : (ℕ → ℕ → ℕ → Type 0) → ℕ → ℕ → Option Shape → Type 0
IsNodeOrdered IsOrderedBelow low high None = ⊥
IsNodeOrdered IsOrderedBelow low high (Some (Leaf k)) = (low ≤ k) × (k < high)
IsNodeOrdered IsOrderedBelow low high (Some (Internal m l r)) =
    IsOrderedBelow low (min m high) l × IsOrderedBelow (max m low) high r

-- node x is in order between low and high within this many levels
abbrev pub IsOrderedWithin : (ℕ → Option Shape) → ℕ → ℕ → ℕ → ℕ → Type 0
IsOrderedWithin shapes zero low high x = ⊥
IsOrderedWithin shapes (suc levels) low high x = IsNodeOrdered (IsOrderedWithin shapes levels) low high (shapes x)

-- node x is in order between low and high
pub record IsOrdered (shapes : ℕ → Option Shape) (low high x : ℕ) : Type 0 where
  pub levels : ℕ
  pub within : IsOrderedWithin shapes levels low high x

-- the root is in order
abbrev pub KeepsSearchOrder : (ℕ → Option Shape) → Type 0
KeepsSearchOrder shapes = IsOrdered shapes 0 103 0

-- where a search for key k goes from a node of this shape: to a child, or it ends here
abbrev pub went_down : ℕ → (ℕ → End) → End → Option Shape → End
went_down k below here None = here
went_down k below here (Some (Leaf j)) = here
went_down k below here (Some (Internal m l r)) = below (if nat_lt k m then l else r)

-- where a search for key k ends that is at node x below a parent, and goes down this many levels at most
abbrev pub end_of : (ℕ → Option Shape) → ℕ → ℕ → ℕ → ℕ → End
end_of shapes k zero parent x = record { parent = parent; leaf = x }
end_of shapes k (suc levels) parent x =
    went_down k (end_of shapes k levels x) (record { parent = parent; leaf = x }) (shapes x)
