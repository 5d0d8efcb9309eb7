-- Canonical parts: what the fixed nodes reach, in the order met, and behind it what only the threads reach.
use Rattle.std.specs.Prelude.{◌≡◌, ℕ, ◌+◌, ◌-◌, ◌&&◌, nat_lt, nat_le, List, ◌++◌, map, length, take}
use Rattle.std.specs.List.{filter}
use Rattle.std.specs.Option.{option_and_then}
use Rattle.tree_machine.specs.Cells.{order_of, place_in}
use Rattle.tree_machine.specs.Graphs.{numbers_from}
use Rattle.tree_machine.specs.Naming.{code_by}
use Rattle.tree_machine.specs.Parts.{Part, Parts, part_at, parts_graph, parts_held, ArePartsInRange}
use Rattle.tree_machine.specs.Flat.{all_front, parts_code}
use Rattle.tree_machine.specs.declared.front.Front.{Front}
use Rattle.tree_machine.specs.declared.naming.Naming.{Naming}

-- the nodes among the cells met, where there are n of them
abbrev pub nodes_met : ℕ → List ℕ → List ℕ
nodes_met n order = filter (λ x. nat_lt x n) order

-- the records among them, by their own numbers, where there are r behind n nodes
abbrev pub records_met : ℕ → ℕ → List ℕ → List ℕ
records_met n r order = map (λ x. x - n) (filter (λ x. nat_le n x && nat_lt x (n + r)) order)

-- a part whose names go by places among these nodes and records
abbrev pub renamed_part : List ℕ → List ℕ → Part → Part
renamed_part nodes records p = record {
  facts = p.facts;
  nodes = map (option_and_then (place_in nodes)) p.nodes;
  records = map (option_and_then (place_in records)) p.records;
}

-- these nodes and records, in this order, and what is held, all renamed
abbrev pub parts_by : List ℕ → List ℕ → Parts → Parts
parts_by nodes records s = record {
  nodes = map (λ x. renamed_part nodes records (part_at s.nodes x)) nodes;
  records = map (λ y. renamed_part nodes records (part_at s.records y)) records;
  held = map (renamed_part nodes records) s.held;
}

-- what the fixed nodes reach, in the order in which a walk from them meets it
abbrev pub front_order : ℕ → Parts → List ℕ
front_order fixed s = order_of (parts_graph s) (numbers_from 0 fixed)

-- the nodes and the records in front: those that the fixed nodes reach
abbrev pub front_nodes : ℕ → Parts → List ℕ
front_nodes fixed s = nodes_met (length s.nodes) (front_order fixed s)

abbrev pub front_records : ℕ → Parts → List ℕ
front_records fixed s = records_met (length s.nodes) (length s.records) (front_order fixed s)

-- nodes, and records behind n nodes, as cells
abbrev pub as_cells : ℕ → List ℕ → List ℕ → List ℕ
as_cells n nodes records = nodes ++ map (λ y. n + y) records

-- these nodes and records, and behind them what a walk from what is held meets besides
abbrev pub order_behind : List ℕ → List ℕ → Parts → List ℕ
order_behind nodes records s =
    order_of (parts_graph s ++ parts_held s)
    (as_cells (length s.nodes) nodes records ++ numbers_from (length (parts_graph s)) (length (parts_held s)))

-- the order of all that is met: first what the fixed nodes reach, then what is held, and what only that reaches
abbrev pub parts_order : ℕ → Parts → List ℕ
parts_order fixed s = order_behind (front_nodes fixed s) (front_records fixed s) s

-- the nodes that are met
abbrev pub met_nodes : ℕ → Parts → List ℕ
met_nodes fixed s = nodes_met (length s.nodes) (parts_order fixed s)

-- the records that are met
abbrev pub met_records : ℕ → Parts → List ℕ
met_records fixed s = records_met (length s.nodes) (length s.records) (parts_order fixed s)

-- the canonical parts: what is met, in the order met, and named by places in it
abbrev pub canonical_parts : ℕ → Parts → Parts
canonical_parts fixed s = parts_by (met_nodes fixed s) (met_records fixed s) s

-- how many nodes and records the fixed nodes reach
abbrev pub canonical_front : ℕ → Parts → Front
canonical_front fixed s = record { nodes = length (front_nodes fixed s); records = length (front_records fixed s) }

-- canonical parts in bytes
abbrev pub canonical_code : ℕ → Parts → List ℕ
canonical_code fixed s = parts_code (canonical_front fixed s) (canonical_parts fixed s)

-- a walk from the fixed nodes meets just the nodes and the records in front, each like in the order of their numbers
pub record IsMetInOrder (fixed : ℕ) (front : Front) (s : Parts) : Type 0 where
  pub nodes : front_nodes fixed s ≡ numbers_from 0 front.nodes
  pub records : front_records fixed s ≡ numbers_from 0 front.records

-- a front, cut to the nodes and records that there are
abbrev pub cut_front : Front → Parts → Front
cut_front front s =
    record { nodes = length (take front.nodes s.nodes); records = length (take front.records s.records) }

-- nodes and records that were read, with what some threads held, from the code of some parts, cut at this front
pub record ArePartsRead (naming : Naming) (fixed : ℕ) (front : Front) (s : Parts) : Type 0 where
  pub other : Parts
  pub twins : List Part
  pub in_range : ArePartsInRange fixed other
  pub many : length other.held ≡ length twins
  pub same : parts_code front (record { nodes = s.nodes; records = s.records; held = twins })
      ≡ code_by naming (parts_code (all_front other) other) (canonical_code fixed other)
