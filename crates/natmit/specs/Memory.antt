-- The nodes of the shared memory.
use Rattle.std.specs.Prelude.{ℕ, ◌+◌, Bool, false, ◌&&◌, not, if◌then◌else◌, nat_eq, nat_lt, [], ◌∷◌, ◌++◌, length}
use Rattle.std.specs.Prelude.{slice_get, slice_set, Option, Some, None, unwrap_or}
use Rattle.std.specs.Option.{option_map}
use Rattle.natmit.specs.Types.{Side, Left, Right, Word, Node, Leaf, Internal, NatMitMem}
use Rattle.tree_machine.specs.declared.search_order.Shape.{Shape}
use Rattle.tree_machine.specs.declared.search_order.Shape.TheVariants as shape
use Rattle.tree_machine.specs.SearchOrder.{side_of}

-- ---- words and nodes

-- the word of child x without flag and tag
abbrev pub plain : ℕ → Word
plain x = record { flag = false; tag = false; node = x }

-- an exchange compares a whole word
abbrev pub is_plain : ℕ → Word → Bool
is_plain x w = not w.flag && not w.tag && nat_eq w.node x

abbrev pub key_in : Node → ℕ
key_in (Leaf k) = k
key_in (Internal k l r) = k

-- what a search sees of a node
abbrev pub shape_in : Node → Shape
shape_in (Leaf k) = shape.Leaf k
shape_in (Internal k l r) = shape.Internal k l.node r.node

-- the child word of a node on a side; a leaf has none
abbrev pub word_on : Side → Node → Option Word
word_on s (Leaf k) = None
word_on Left (Internal k l r) = Some l
word_on Right (Internal k l r) = Some r

abbrev pub with_word : Side → Word → Node → Node
with_word s w (Leaf k) = Leaf k
with_word Left w (Internal k l r) = Internal k w r
with_word Right w (Internal k l r) = Internal k l w

-- ---- the memory

-- node x
abbrev pub node_at : NatMitMem → ℕ → Node
node_at memory x = unwrap_or (slice_get memory.nodes x) (Leaf 0)

-- what a search sees of each node
abbrev pub shapes : NatMitMem → ℕ → Option Shape
shapes memory x = option_map shape_in (slice_get memory.nodes x)

abbrev pub key_at : NatMitMem → ℕ → ℕ
key_at memory x = key_in (node_at memory x)

-- the side of node x on which key k is looked for
abbrev pub side_at : ℕ → NatMitMem → ℕ → Side
side_at k memory x = side_of k (key_at memory x)

abbrev pub set_node : NatMitMem → ℕ → Node → NatMitMem
set_node memory x node = record { nodes = slice_set memory.nodes x node }

abbrev pub set_word : NatMitMem → ℕ → Side → Word → NatMitMem
set_word memory x s w = set_node memory x (with_word s w (node_at memory x))

-- a new internal node over the new leaf x of key k and the leaf l of key j, the smaller key on the left
abbrev pub internal_over : ℕ → ℕ → ℕ → ℕ → Node
internal_over k j x l = if nat_lt k j then Internal j (plain x) (plain l) else Internal k (plain l) (plain x)

-- a new internal node for key k at leaf l, behind its new leaf
abbrev pub with_internal : NatMitMem → ℕ → ℕ → NatMitMem
with_internal memory k l =
    record { nodes = memory.nodes ++ Leaf k ∷ internal_over k (key_at memory l) (length memory.nodes) l ∷ [] }

-- the number of that internal node
abbrev pub new_internal : NatMitMem → ℕ
new_internal memory = length memory.nodes + 1

-- that internal node takes the place of the leaf below p
abbrev pub put_at : NatMitMem → ℕ → ℕ → ℕ → NatMitMem
put_at memory k p l = set_word (with_internal memory k l) p (side_at k memory p) (plain (new_internal memory))
