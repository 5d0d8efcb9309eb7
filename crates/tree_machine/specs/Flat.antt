-- Cells, and nodes, records and what threads hold, as one list of bytes.
use Rattle.std.specs.Prelude.{ℕ, zero, suc, ◌+◌, ◌*◌, ◌/◌, ◌%◌, ◌&&◌, if◌then◌else◌, nat_lt, List, [], ◌∷◌, ◌++◌}
use Rattle.std.specs.Prelude.{map, length, take, drop, replicate, Option, Some, None}
use Rattle.std.specs.List.{flat_map}
use Rattle.tree_machine.specs.Cells.{Content}
use Rattle.tree_machine.specs.Parts.{Part, Parts}
use Rattle.tree_machine.specs.declared.front.Front.{Front}

-- a number in bytes: 255 for each 255 in it, and then the rest
abbrev pub number_code : ℕ → List ℕ
number_code n = replicate (n / 255) 255 ++ (n % 255) ∷ []

-- a reference as a number
abbrev pub reference_number : Option ℕ → ℕ
reference_number None = zero
reference_number (Some x) = suc x

-- how many facts and how many references there are, in numbers behind a byte that no short head is, and the facts
abbrev pub long_code : List ℕ → ℕ → List ℕ
long_code facts refs = 255 ∷ (number_code (length facts) ++ (number_code refs ++ flat_map number_code facts))

-- the first fact, how many more there are, and how many references, in one byte, if they are small
abbrev pub short_head : ℕ → ℕ → ℕ → Option ℕ
short_head first more refs =
    if nat_lt first 6 && (nat_lt more 5 && nat_lt refs 8) then Some (more + 5 * first + 30 * refs) else None

-- behind a head of one byte the other facts, and where there is none the long code of all
abbrev pub headed : Option ℕ → ℕ → List ℕ → ℕ → List ℕ
headed None first facts refs = long_code (first ∷ facts) refs
headed (Some head) first facts refs = head ∷ flat_map number_code facts

-- the facts of a cell, and how many references it has
abbrev pub facts_code : List ℕ → ℕ → List ℕ
facts_code [] refs = long_code [] refs
facts_code (first ∷ facts) refs = headed (short_head first (length facts) refs) first facts refs

-- a cell in bytes: its facts, and its references
abbrev pub cell_code : Content → List ℕ
cell_code c = facts_code c.facts (length c.refs) ++ flat_map number_code (map reference_number c.refs)

-- cells in bytes, one after the other
abbrev pub flat : List Content → List ℕ
flat cells = flat_map cell_code cells

-- a part as a cell that names nodes and records by their numbers: how many nodes it names comes before its facts
abbrev pub part_content : Part → Content
part_content p = record { facts = length p.nodes ∷ p.facts; refs = p.nodes ++ p.records }

-- parts in bytes, one after the other
abbrev pub part_codes : List Part → List ℕ
part_codes parts = flat (map part_content parts)

-- nodes and records in bytes: how many there are of each, and all of them
abbrev pub graph_code : List Part → List Part → List ℕ
graph_code nodes records =
    number_code (length nodes) ++ (number_code (length records) ++ part_codes (nodes ++ records))

-- the nodes and the records in front
abbrev pub front_code : Front → Parts → List ℕ
front_code front s = graph_code (take front.nodes s.nodes) (take front.records s.records)

-- the nodes and the records that are left, if some are
abbrev pub left_code : List Part → List Part → List ℕ
left_code [] [] = []
left_code nodes records = graph_code nodes records

-- what the threads hold, and what is left behind a front
abbrev pub behind_code : Front → Parts → List ℕ
behind_code front s = part_codes s.held ++ left_code (drop front.nodes s.nodes) (drop front.records s.records)

-- nodes, records and what the threads hold in bytes, cut at a front
abbrev pub parts_code : Front → Parts → List ℕ
parts_code front s = front_code front s ++ behind_code front s

-- all nodes and records
abbrev pub all_front : Parts → Front
all_front s = record { nodes = length s.nodes; records = length s.records }
