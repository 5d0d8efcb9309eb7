-- The nodes and the records of the shared memory.
use Rattle.std.specs.Prelude.{ℕ, ◌+◌, Bool, true, false, if◌then◌else◌, nat_eq, nat_lt, [], ◌∷◌, ◌++◌, length}
use Rattle.std.specs.Prelude.{slice_get, slice_set, Option, Some, None, unwrap_or}
use Rattle.std.specs.Option.{option_map}
use Rattle.ellen.specs.Types.{Side, UpdateWord, Node, Leaf, Internal, InsertRecord, DeleteRecord, Record, Ins, Del}
use Rattle.ellen.specs.Types.{EllenMem}
use Rattle.ellen.specs.declared.memory.UpdateWord.TheVariants.{Untouched, Clean, InsertFlag, DeleteFlag, Mark}
use Rattle.tree_machine.specs.declared.search_order.Side.TheVariants.{Left, Right}
use Rattle.tree_machine.specs.declared.search_order.Shape.{Shape}
use Rattle.tree_machine.specs.declared.search_order.Shape.TheVariants as shape

-- ---- nodes

abbrev pub key_in : Node → ℕ
key_in (Leaf k) = k
key_in (Internal k u l r) = k

-- what a search sees of a node
abbrev pub shape_in : Node → Shape
shape_in (Leaf k) = shape.Leaf k
shape_in (Internal k u l r) = shape.Internal k l r

-- the update word of a node; a leaf has none
abbrev pub update_of : Node → Option UpdateWord
update_of (Leaf k) = None
update_of (Internal k u l r) = Some u

-- the child of a node on a side; a leaf has none
abbrev pub child_on : Side → Node → Option ℕ
child_on s (Leaf k) = None
child_on Left (Internal k u l r) = Some l
child_on Right (Internal k u l r) = Some r

abbrev pub with_update : UpdateWord → Node → Node
with_update u (Leaf k) = Leaf k
with_update u (Internal k v l r) = Internal k u l r

abbrev pub with_child : Side → ℕ → Node → Node
with_child s x (Leaf k) = Leaf k
with_child Left x (Internal k u l r) = Internal k u x r
with_child Right x (Internal k u l r) = Internal k u l x

-- an exchange compares a whole update word, its record too
abbrev pub is_word : UpdateWord → UpdateWord → Bool
is_word Untouched Untouched = true
is_word (Clean r) (Clean s) = nat_eq r s
is_word (InsertFlag r) (InsertFlag s) = nat_eq r s
is_word (DeleteFlag r) (DeleteFlag s) = nat_eq r s
is_word (Mark r) (Mark s) = nat_eq r s
is_word _ _ = false

abbrev pub is_clean : UpdateWord → Bool
is_clean Untouched = true
is_clean (Clean r) = true
is_clean (InsertFlag r) = false
is_clean (DeleteFlag r) = false
is_clean (Mark r) = false

-- ---- the memory

-- node x
abbrev pub node_at : EllenMem → ℕ → Node
node_at memory x = unwrap_or (slice_get memory.nodes x) (Leaf 0)

-- record r
abbrev pub record_at : EllenMem → ℕ → Option Record
record_at memory r = slice_get memory.records r

-- the record of an insert, or none
abbrev pub insert_of : Option Record → Option InsertRecord
insert_of None = None
insert_of (Some (Ins i)) = Some i
insert_of (Some (Del d)) = None

-- the record of a delete, or none
abbrev pub delete_of : Option Record → Option DeleteRecord
delete_of None = None
delete_of (Some (Ins i)) = None
delete_of (Some (Del d)) = Some d

-- what a search sees of each node
abbrev pub shapes : EllenMem → ℕ → Option Shape
shapes memory x = option_map shape_in (slice_get memory.nodes x)

abbrev pub key_at : EllenMem → ℕ → ℕ
key_at memory x = key_in (node_at memory x)

abbrev pub set_node : EllenMem → ℕ → Node → EllenMem
set_node memory x node = record { nodes = slice_set memory.nodes x node; records = memory.records }

abbrev pub set_update : EllenMem → ℕ → UpdateWord → EllenMem
set_update memory x word = set_node memory x (with_update word (node_at memory x))

abbrev pub set_child : EllenMem → ℕ → Side → ℕ → EllenMem
set_child memory x side child = set_node memory x (with_child side child (node_at memory x))

-- a new internal node over the new leaf x of key k and the copy y of a leaf of key j, the smaller key on the left
abbrev pub internal_over : ℕ → ℕ → ℕ → ℕ → Node
internal_over k j x y = if nat_lt k j then Internal j Untouched x y else Internal k Untouched y x

-- a new internal node for key k at leaf l, behind its two new leaves
abbrev pub with_internal : EllenMem → ℕ → ℕ → EllenMem
with_internal memory k l =
    let n = length memory.nodes in
    record {
      nodes = memory.nodes ++ Leaf k ∷ Leaf (key_at memory l) ∷ internal_over k (key_at memory l) n (n + 1) ∷ [];
      records = memory.records;
    }

-- the number of that internal node
abbrev pub new_internal : EllenMem → ℕ
new_internal memory = length memory.nodes + 2

abbrev pub add_record : EllenMem → Record → EllenMem
add_record memory new = record { nodes = memory.nodes; records = memory.records ++ new ∷ [] }
