-- What a coder has numbered so far, and what it writes by that.
use Rattle.std.specs.Prelude.{◌≡◌, ℕ, ◌+◌, ◌<◌, ◌≤◌, List, [], ◌∷◌, ◌++◌, map, length, drop, Option}
use Rattle.std.specs.List.{All}
use Rattle.std.specs.Option.{option_and_then}
use Rattle.tree_machine.specs.Canonical.{nodes_met, records_met, renamed_part}
use Rattle.tree_machine.specs.Cells.{met_all, met_in, place_in}
use Rattle.tree_machine.specs.Graphs.{numbers_from}
use Rattle.tree_machine.specs.Parts.{Part, Parts, part_at, parts_graph, parts_held}
use Rattle.tree_machine.specs.Flat.{number_code, reference_number, cell_code, part_content}

-- how many nodes and records there are, those that have numbers, in the order of their numbers, and the cells that got
-- theirs in this walk (records come behind the nodes)
pub record Coding : Type 0 where
  pub nodes_below : ℕ
  pub records_below : ℕ
  pub nodes : List ℕ
  pub records : List ℕ
  pub queue : List ℕ

-- what refs name that an order does not have, in the order met
abbrev pub newly : List ℕ → List (Option ℕ) → List ℕ
newly order refs = drop (length order) (met_all order refs)

-- a name in bytes: its place in an order
abbrev pub name_code : List ℕ → Option ℕ → List ℕ
name_code order r = number_code (reference_number (option_and_then (place_in order) r))

-- once what a part names has numbers
abbrev pub with_part : Coding → Part → Coding
with_part c p = record c {
  nodes = met_all c.nodes p.nodes;
  records = met_all c.records p.records;
  queue = (c.queue ++ newly c.nodes p.nodes) ++ map (λ x. c.nodes_below + x) (newly c.records p.records);
}

-- a part in bytes: its names are numbers
abbrev pub coded_by : Coding → Part → List ℕ
coded_by c p = cell_code (part_content (renamed_part c.nodes c.records p))

-- a part is visited: what it names has numbers, and it is written behind the bytes that there were
abbrev pub IsVisited : Part → Coding → List ℕ → Coding → List ℕ → Type 0
IsVisited p old bytes new put = (new ≡ with_part old p) × (put ≡ bytes ++ coded_by new p)

-- once what parts name has numbers, one part behind the other
abbrev pub with_parts : Coding → List Part → Coding
with_parts c [] = c
with_parts c (p ∷ parts) = with_parts (with_part c p) parts

-- parts in bytes, each by the numbers that there are once it is visited
abbrev pub coded_parts : Coding → List Part → List ℕ
coded_parts c [] = []
coded_parts c (p ∷ parts) = coded_by (with_part c p) p ++ coded_parts (with_part c p) parts

-- the nodes in a queue, as they are written
abbrev pub nodes_by : Coding → Parts → List ℕ → List Part
nodes_by c s queue = map (λ x. renamed_part c.nodes c.records (part_at s.nodes x)) (nodes_met (length s.nodes) queue)

-- the records in it
abbrev pub records_by : Coding → Parts → List ℕ → List Part
records_by c s queue = map (λ y. renamed_part c.nodes c.records (part_at s.records y))
    (records_met (length s.nodes) (length s.records) queue)

-- a walk from roots, after so many visits: it met what was before the queue, and the queue, and numbers go by that; the
-- queue has nodes and records alone
pub record IsWalk (s : Parts) (roots before : List ℕ) (visits : ℕ) (c : Coding) : Type 0 where
  pub met : before ++ c.queue ≡ met_in (parts_graph s ++ parts_held s) roots visits
  pub nodes : c.nodes ≡ nodes_met (length s.nodes) (before ++ c.queue)
  pub records : c.records ≡ records_met (length s.nodes) (length s.records) (before ++ c.queue)
  pub nodes_below : c.nodes_below ≡ length s.nodes
  pub records_below : c.records_below ≡ length s.records
  pub graph : All (λ x. x < length s.nodes + length s.records) c.queue

-- each node and each record has its own number, and there are at least n nodes and r records
pub record IsOwn (n r : ℕ) (c : Coding) : Type 0 where
  pub nodes : c.nodes ≡ numbers_from 0 c.nodes_below
  pub records : c.records ≡ numbers_from 0 c.records_below
  pub nodes_bounded : n ≤ c.nodes_below
  pub records_bounded : r ≤ c.records_below
