-- The nodes and what the threads hold in parts: the numbers of nodes are apart from all else.
use Rattle.std.specs.Prelude.{ℕ, ◌+◌, ◌*◌, Bool, if◌then◌else◌, List, [], ◌∷◌, map, Option, Some, None}
use Rattle.natmit.specs.Types.{Front, Side, Left, Right, Word, Node, Leaf, Internal, NatMitMem, Mode, Plain, Owner}
use Rattle.natmit.specs.Types.{Path, NatMitLoc, Begin, Down, Put, Flag, Look, CleanRead, Tag, Sibling, Swing}
use Rattle.tree_machine.specs.Canonical.{canonical_code}
use Rattle.tree_machine.specs.Flat.{all_front, behind_code, front_code, parts_code}
use Rattle.tree_machine.specs.Parts.{Part, Parts}

abbrev pub bit : Bool → ℕ
bit b = if b then 1 else 0

abbrev pub side_number : Side → ℕ
side_number Left = 0
side_number Right = 1

-- the leaf that the delete flagged
abbrev pub owned : Mode → Option ℕ
owned Plain = None
owned (Owner o) = Some o

-- a part that names no records
abbrev pub part_of : List ℕ → List (Option ℕ) → Part
part_of facts nodes = record { facts = facts; nodes = nodes; records = [] }

-- the flag and the tag of a child word
abbrev pub mark_number : Word → ℕ
mark_number w = bit w.flag + 2 * bit w.tag

-- the key, and of an internal node the children with their flags and tags
abbrev pub node_part : Node → Part
node_part (Leaf k) = part_of (k ∷ []) []
node_part (Internal k l r) =
    part_of (k ∷ (mark_number l + 4 * mark_number r) ∷ []) (Some l.node ∷ Some r.node ∷ [])

-- a part that names the nodes of a path, and more
abbrev pub path_part : List ℕ → Path → List (Option ℕ) → Part
path_part facts p more = part_of facts (Some p.ancestor ∷ Some p.successor ∷ Some p.parent ∷ more)

-- which place it is, and its locals
abbrev pub place_part : NatMitLoc → Part
place_part (Begin m) = part_of (1 ∷ []) (owned m ∷ [])
place_part (Down p l t m) = path_part (2 ∷ bit t ∷ []) p (Some l ∷ owned m ∷ [])
place_part (Put p l) = path_part (3 ∷ []) p (Some l ∷ [])
place_part (Flag p l) = path_part (4 ∷ []) p (Some l ∷ [])
place_part (Look p l) = path_part (5 ∷ []) p (Some l ∷ [])
place_part (CleanRead p m) = path_part (6 ∷ []) p (owned m ∷ [])
place_part (Tag p d m) = path_part (7 ∷ side_number d ∷ []) p (owned m ∷ [])
place_part (Sibling p d m) = path_part (8 ∷ side_number d ∷ []) p (owned m ∷ [])
place_part (Swing a s f x m) = part_of (9 ∷ bit f ∷ []) (Some a ∷ Some s ∷ Some x ∷ owned m ∷ [])

-- a thread between operations holds nothing
abbrev pub held_part : Option NatMitLoc → Part
held_part None = part_of [] []
held_part (Some place) = place_part place

abbrev pub natmit_parts : NatMitMem → List (Option NatMitLoc) → Parts
natmit_parts memory held = record { nodes = map node_part memory.nodes; records = []; held = map held_part held }

-- the form of a memory with what the threads hold: the bytes of what nodes 0 and 1 and the threads reach, in the order
-- in which a walk from these meets it
abbrev pub natmit_form : NatMitMem → List (Option NatMitLoc) → List ℕ
natmit_form memory held = canonical_code 2 (natmit_parts memory held)

-- all of a memory and what the threads hold, by the numbers of the nodes
abbrev pub natmit_code : NatMitMem → List (Option NatMitLoc) → List ℕ
natmit_code memory held = parts_code (all_front (natmit_parts memory held)) (natmit_parts memory held)

-- what comes in front, of the memory alone
abbrev pub natmit_front_code : Front → NatMitMem → List ℕ
natmit_front_code front memory = front_code front (natmit_parts memory [])

-- what the threads hold, and what is left of the memory
abbrev pub natmit_behind_code : Front → NatMitMem → List (Option NatMitLoc) → List ℕ
natmit_behind_code front memory held = behind_code front (natmit_parts memory held)
