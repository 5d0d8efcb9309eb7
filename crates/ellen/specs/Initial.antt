-- The initial memory.
use Rattle.std.specs.Prelude.{ℕ, List, [], ◌∷◌, length, fold}
use Rattle.tree_machine.specs.SearchOrder.{side_of, end_of}
use Rattle.ellen.specs.declared.memory.UpdateWord.TheVariants.{Untouched}
use Rattle.ellen.specs.Types.{Leaf, Internal, EllenMem}
use Rattle.ellen.specs.Memory.{shapes, key_at, set_child, with_internal, new_internal}

-- the root, over the two greatest sentinels
abbrev pub empty_tree : EllenMem
empty_tree = record { nodes = Internal 102 Untouched 1 2 ∷ Leaf 101 ∷ Leaf 102 ∷ []; records = [] }

-- key k is inserted: a new internal node takes the place of the leaf that a search for k reaches, which stays in the
-- list
abbrev pub put_in : EllenMem → ℕ → EllenMem
put_in memory k =
    let end = end_of (shapes memory) k (length memory.nodes) 0 0 in
    set_child (with_internal memory k end.leaf) end.parent (side_of k (key_at memory end.parent)) (new_internal memory)

-- the memory with these keys, inserted in this order
abbrev pub initial_memory : List ℕ → EllenMem
initial_memory keys = fold put_in empty_tree keys
