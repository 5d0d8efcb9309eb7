-- Nodes, records and what the threads hold, in parts, and their pairings.
use Rattle.std.specs.Prelude.{◌≡◌, ℕ, ◌+◌, ◌<◌, ◌≤◌, List, [], ◌∷◌, ◌++◌, map, length, slice_get, unwrap_or, Option}
use Rattle.std.specs.Prelude.{IfSome}
use Rattle.std.specs.List.{AllZip, All}
use Rattle.std.specs.Option.{option_map}
use Rattle.tree_machine.specs.Cells.{Content, IsPairedOrNone}
use Rattle.tree_machine.specs.Pairing.{IsOneToOne, IsAmong}

-- a node, a record or what a thread holds: facts, and the nodes and the records that it names
pub record Part : Type 0 where
  pub facts : List ℕ
  pub nodes : List (Option ℕ)
  pub records : List (Option ℕ)

-- nodes, records and what the threads hold
pub record Parts : Type 0 where
  pub nodes : List Part
  pub records : List Part
  pub held : List Part

-- the part with nothing in it
abbrev pub no_part : Part
no_part = record { facts = []; nodes = []; records = [] }

-- part x
abbrev pub part_at : List Part → ℕ → Part
part_at parts x = unwrap_or (slice_get parts x) no_part

-- equal facts, and nodes and records that are paired place by place
pub record ArePartsPaired (P R : ℕ → ℕ → Type 0) (a b : Part) : Type 0 where
  pub facts : a.facts ≡ b.facts
  pub nodes : AllZip (IsPairedOrNone P) a.nodes b.nodes
  pub records : AllZip (IsPairedOrNone R) a.records b.records

-- P pairs nodes and R pairs records, each one to one, and each pair is of parts that are paired
pub record IsPartsPairing (P R : ℕ → ℕ → Type 0) (fixed : ℕ) (here there : Parts) : Type 0 where
  pub nodes_one_to_one : IsOneToOne P
  pub records_one_to_one : IsOneToOne R
  pub fixed_paired : (x : ℕ) → x < fixed → P x x
  pub nodes_in_range : (x y : ℕ) → P x y → (x < length here.nodes) × (y < length there.nodes)
  pub records_in_range : (x y : ℕ) → R x y → (x < length here.records) × (y < length there.records)
  pub nodes_paired : (x y : ℕ) → P x y → ArePartsPaired P R (part_at here.nodes x) (part_at there.nodes y)
  pub records_paired : (x y : ℕ) → R x y → ArePartsPaired P R (part_at here.records x) (part_at there.records y)
  pub held_paired : AllZip (ArePartsPaired P R) here.held there.held

-- the numbers that a part names are of nodes and of records
pub record IsPartBelow (n r : ℕ) (p : Part) : Type 0 where
  pub nodes : All (λ x. IfSome x (λ y. y < n)) p.nodes
  pub records : All (λ x. IfSome x (λ y. y < r)) p.records

-- there are the fixed nodes, and each part names nodes and records that there are
pub record ArePartsInRange (fixed : ℕ) (s : Parts) : Type 0 where
  pub fixed_in_range : fixed ≤ length s.nodes
  pub nodes : All (IsPartBelow (length s.nodes) (length s.records)) s.nodes
  pub records : All (IsPartBelow (length s.nodes) (length s.records)) s.records
  pub held : All (IsPartBelow (length s.nodes) (length s.records)) s.held

-- a part as a cell, where records come behind n nodes: how many nodes it names comes before its facts
abbrev pub part_cell : ℕ → Part → Content
part_cell n p =
    record { facts = length p.nodes ∷ p.facts; refs = p.nodes ++ map (option_map (λ x. n + x)) p.records }

-- the nodes and the records as cells
abbrev pub parts_graph : Parts → List Content
parts_graph s = map (part_cell (length s.nodes)) s.nodes ++ map (part_cell (length s.nodes)) s.records

-- what the threads hold as cells
abbrev pub parts_held : Parts → List Content
parts_held s = map (part_cell (length s.nodes)) s.held

-- some pairs of nodes and some pairs of records are a pairing
abbrev pub CanPartsBePaired : ℕ → Parts → Parts → Type 0
CanPartsBePaired fixed here there = (nodes : List (ℕ × ℕ)) × (records : List (ℕ × ℕ))
    × IsPartsPairing (IsAmong nodes) (IsAmong records) fixed here there
