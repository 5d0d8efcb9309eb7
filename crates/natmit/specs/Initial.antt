-- The initial memory.
use Rattle.std.specs.Prelude.{ℕ, List, [], ◌∷◌, length, fold}
use Rattle.tree_machine.specs.SearchOrder.{end_of}
use Rattle.natmit.specs.Types.{Leaf, Internal, NatMitMem}
use Rattle.natmit.specs.Memory.{plain, shapes, put_at}

-- the root R, node 1 which is S, and three leaves of keys above all that programs name
abbrev pub empty_tree : NatMitMem
empty_tree = record {
  nodes = Internal 102 (plain 1) (plain 2) ∷ Internal 101 (plain 3) (plain 4) ∷ Leaf 102 ∷ Leaf 100 ∷ Leaf 101 ∷ [];
}

-- key k is inserted at the leaf that a search for it reaches
abbrev pub put_in : NatMitMem → ℕ → NatMitMem
put_in memory k =
    let end = end_of (shapes memory) k (length memory.nodes) 0 0 in
    put_at memory k end.parent end.leaf

-- the memory with these keys, inserted in this order
abbrev pub initial_memory : List ℕ → NatMitMem
initial_memory keys = fold put_in empty_tree keys
