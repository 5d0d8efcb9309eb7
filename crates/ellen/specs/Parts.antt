-- Nodes, records and what the threads hold as parts: their facts, and the nodes and the records that they name.
use Rattle.std.specs.Prelude.{◌≡◌, ℕ, suc, List, [], ◌∷◌, ◌++◌, map, Option, Some, None}
use Rattle.tree_machine.specs.Canonical.{canonical_code}
use Rattle.tree_machine.specs.Flat.{all_front, behind_code, cell_code, front_code, part_content, parts_code}
use Rattle.tree_machine.specs.Parts.{Part, Parts, no_part}
use Rattle.ellen.specs.Types.{Front, Side, UpdateWord, Node, Leaf, Internal, Record, Ins, Del, EllenMem, Above, Base}
use Rattle.ellen.specs.Types.{SearchLoc, Update, Child, IFlag, InsOnly, DFlag, HelpLoc, InsChild, InsClean, Mark, Right}
use Rattle.ellen.specs.Types.{Other, Splice, DelClean, Back, EllenLoc, Search, Help}
use Rattle.tree_machine.specs.declared.search_order.Side.TheVariants as side
use Rattle.ellen.specs.declared.memory.UpdateWord.TheVariants as word
use Rattle.ellen.specs.declared.place.Base.TheVariants.{Again, Insert, Delete}

-- ---- update words

-- the kind of an update word
abbrev pub word_number : UpdateWord → ℕ
word_number word.Untouched = 0
word_number (word.Clean r) = 1
word_number (word.InsertFlag r) = 2
word_number (word.DeleteFlag r) = 3
word_number (word.Mark r) = 4

-- the record that an update word names
abbrev pub word_record : UpdateWord → Option ℕ
word_record word.Untouched = None
word_record (word.Clean r) = Some r
word_record (word.InsertFlag r) = Some r
word_record (word.DeleteFlag r) = Some r
word_record (word.Mark r) = Some r

-- ---- the memory

-- a node names its children, and the record of its update word
abbrev pub node_part : Node → Part
node_part (Leaf k) = record { facts = k ∷ []; nodes = []; records = [] }
node_part (Internal k u l r) =
    record { facts = k ∷ word_number u ∷ []; nodes = Some l ∷ Some r ∷ []; records = word_record u ∷ [] }

-- a record names its nodes, and the record of the update word that it holds
abbrev pub record_part : Record → Part
record_part (Ins i) = record { facts = []; nodes = Some i.parent ∷ Some i.leaf ∷ Some i.new ∷ []; records = [] }
record_part (Del d) =
    record {
      facts = word_number d.parent_update ∷ [];
      nodes = Some d.grandparent ∷ Some d.parent ∷ Some d.leaf ∷ [];
      records = word_record d.parent_update ∷ [];
    }

-- ---- places

-- whether there is a grandparent, and the kind of its update word
abbrev pub above_number : Option Above → ℕ
above_number None = 0
above_number (Some a) = suc (word_number a.update)

-- the grandparent, if there is one
abbrev pub above_node : Option Above → Option ℕ
above_node None = None
above_node (Some a) = Some a.node

-- the record that the update word of the grandparent names
abbrev pub above_record : Option Above → Option ℕ
above_record None = None
above_record (Some a) = word_record a.update

-- a place of a search names the nodes that it holds, and the records of its update words
abbrev pub search_part : SearchLoc → Part
search_part (Update a p) =
    record { facts = 0 ∷ above_number a ∷ []; nodes = above_node a ∷ Some p ∷ []; records = above_record a ∷ [] }
search_part (Child a p u) =
    record {
      facts = 1 ∷ above_number a ∷ word_number u ∷ [];
      nodes = above_node a ∷ Some p ∷ [];
      records = above_record a ∷ word_record u ∷ [];
    }
search_part (IFlag p u l) =
    record { facts = 2 ∷ word_number u ∷ []; nodes = Some p ∷ Some l ∷ []; records = word_record u ∷ [] }
search_part (InsOnly p l) = record { facts = 3 ∷ []; nodes = Some p ∷ Some l ∷ []; records = [] }
search_part (DFlag a p u l) =
    record {
      facts = 4 ∷ word_number a.update ∷ word_number u ∷ [];
      nodes = Some a.node ∷ Some p ∷ Some l ∷ [];
      records = word_record a.update ∷ word_record u ∷ [];
    }

-- the bytes are the code of a place of a search, with these behind it
abbrev pub IsSearchCode : List ℕ → SearchLoc → List ℕ → Type 0
IsSearchCode bytes at rest = bytes ≡ cell_code (part_content (search_part at)) ++ rest

-- the kind of a help place
abbrev pub help_number : HelpLoc → ℕ
help_number (InsChild r) = 0
help_number (InsClean r) = 1
help_number (Mark r) = 2
help_number (Right r) = 3
help_number (Other r s) = 4
help_number (Splice r o) = 5
help_number (DelClean r) = 6
help_number (Back r) = 7

-- the side, where there is one
abbrev pub side_number : Side → ℕ
side_number side.Left = 1
side_number side.Right = 2

-- the side that a help place holds, or none
abbrev pub help_side : HelpLoc → ℕ
help_side (Other r s) = side_number s
help_side _ = 0

-- the record that a help place carries out
abbrev pub help_record : HelpLoc → ℕ
help_record (InsChild r) = r
help_record (InsClean r) = r
help_record (Mark r) = r
help_record (Right r) = r
help_record (Other r s) = r
help_record (Splice r o) = r
help_record (DelClean r) = r
help_record (Back r) = r

-- the node that a help place holds beside its record, or none
abbrev pub help_node : HelpLoc → Option ℕ
help_node (Splice r o) = Some o
help_node _ = None

-- what is done behind the backtracks
abbrev pub base_number : Base → ℕ
base_number Again = 0
base_number Insert = 1
base_number Delete = 2

-- a help place names its record, and the records of its stack
abbrev pub place_part : EllenLoc → Part
place_part (Search at) = search_part at
place_part (Help at resume) =
    record {
      facts = 5 ∷ help_number at ∷ help_side at ∷ base_number resume.base ∷ [];
      nodes = help_node at ∷ [];
      records = Some (help_record at) ∷ map Some resume.stack;
    }

-- what a thread holds: a place, or nothing between operations
abbrev pub held_part : Option EllenLoc → Part
held_part None = no_part
held_part (Some place) = place_part place

-- ---- all of them

-- the nodes and the records of a memory, and what each thread holds
abbrev pub ellen_parts : EllenMem → List (Option EllenLoc) → Parts
ellen_parts memory held =
    record { nodes = map node_part memory.nodes; records = map record_part memory.records; held = map held_part held }

-- the form of a memory with what the threads hold: its canonical parts, where the root is fixed
abbrev pub ellen_form : EllenMem → List (Option EllenLoc) → List ℕ
ellen_form memory held = canonical_code 1 (ellen_parts memory held)

-- all of a memory and what the threads hold, by the numbers of nodes and records
abbrev pub ellen_code : EllenMem → List (Option EllenLoc) → List ℕ
ellen_code memory held = parts_code (all_front (ellen_parts memory held)) (ellen_parts memory held)

-- what comes in front, of the memory alone
abbrev pub ellen_front_code : Front → EllenMem → List ℕ
ellen_front_code front memory = front_code front (ellen_parts memory [])

-- what the threads hold, and what is left of the memory
abbrev pub ellen_behind_code : Front → EllenMem → List (Option EllenLoc) → List ℕ
ellen_behind_code front memory held = behind_code front (ellen_parts memory held)
