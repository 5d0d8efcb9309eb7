-- Canonical parts: they can be paired with the parts that they come from, and are equal exactly where parts can be.
use Rattle.std.proofs.Common.{◌≡◌, ℕ, ◌+◌, ◌<◌, ◌≤◌, List, [], ◌∷◌, ◌++◌, map, length, ◌∙◌, ap, subst}
use Rattle.std.proofs.Common.{append_assoc, append-nil, arith, length-append}
use Rattle.std.specs.Prelude.{Option}
use Rattle.std.specs.List.{All, AllByRecursion}
use Rattle.std.specs.Option.{option_map}
use Rattle.std.proofs.lemmas.List.{length-map}
use Rattle.std.proofs.lemmas.List.Elements.{recursion_from_All, All-from_recursion}
use Rattle.std.proofs.lemmas.List.Folds.{list_any-append}
use Rattle.std.proofs.Math.Bool.{or-true}
use Rattle.tree_machine.specs.Cells.{content_at, IsRooted, order_of}
use Rattle.tree_machine.specs.Pairing.{IsAmong}
use Rattle.tree_machine.specs.Graphs.{numbers_from}
use Rattle.tree_machine.specs.Parts.{Part, Parts, IsPartsPairing, IsPartBelow, ArePartsInRange}
use Rattle.tree_machine.specs.Parts.{part_cell, parts_graph, parts_held, CanPartsBePaired}
use Rattle.tree_machine.specs.Canonical.{nodes_met, records_met, front_order, front_nodes, front_records, as_cells}
use Rattle.tree_machine.specs.Canonical.{order_behind, met_nodes, met_records, canonical_parts}
use Rattle.tree_machine.specs.Laws.CellLists.{AreDistinctIn, distinct_in_join, distinct_in_raised, distinct_in_row}
use Rattle.tree_machine.specs.Laws.CellLists.{numbers_all, order_front}
use Rattle.tree_machine.specs.Laws.CellOrder.{Has, HasAll, RefsBelow, Extends, extends_more, has_extends}
use Rattle.tree_machine.specs.Laws.CellOrder.{met_in_order, met_in_extends, order_closed}
use Rattle.tree_machine.specs.Laws.CellPlaces.{place_from_has, get_place, has_at}
use Rattle.tree_machine.specs.Laws.PartCells.{all_cells, all_parts, part_all, length-parts_graph, length-cells, node_at}
use Rattle.tree_machine.specs.Laws.PartCells.{record_at, held_at, cells_rooted, graph_rooted}
use Rattle.tree_machine.specs.Laws.Graphs.{length-numbers_from}
use Rattle.tree_machine.specs.Laws.MetLists.{number_at, places, nodes_below, records_below, nodes_first, records_first}
use Rattle.tree_machine.specs.Laws.MetLists.{filter_distinct, node_has, has_node}
use Rattle.tree_machine.specs.Laws.MetLists.{records_distinct, record_has, has_record}
use Rattle.tree_machine.specs.Laws.PartsBy.{IsPartMet, AreMet, by_paired, by_in_range}

-- ---- what a walk meets

-- what an order has of the names of a part, its nodes and its records have
names_met : (n r : ℕ) (order : List ℕ) (ns rs : List (Option ℕ)) → RefsBelow n ns → RefsBelow r rs
    → HasAll order (ns ++ map (option_map (λ x. n + x)) rs)
    → HasAll (nodes_met n order) ns × HasAll (records_met n r order) rs
names_met n r order [] [] l k h = (tt, tt)
names_met n r order [] (o ∷ rs) l k h = grind (arith, names_met n r order [] rs, has_record n order r)
names_met n r order (o ∷ ns) rs l k h = grind (arith, names_met n r order ns rs, has_node n order)

-- the nodes and the records of an order of cells
abbrev nodes_of : Parts → List ℕ → List ℕ
nodes_of s order = nodes_met (length s.nodes) order

abbrev records_of : Parts → List ℕ → List ℕ
records_of s order = records_met (length s.nodes) (length s.records) order

-- nodes and records, and behind them what is held, as roots
abbrev pub roots_behind : Parts → List ℕ → List ℕ → List ℕ
roots_behind s nodes records =
    as_cells (length s.nodes) nodes records ++ numbers_from (length (parts_graph s)) (length (parts_held s))

-- nodes that an order begins with are the first among its nodes
first_nodes : (s : Parts) (order nodes records behind : List ℕ)
    → order ≡ as_cells (length s.nodes) nodes records ++ behind → AllByRecursion (λ x. x < length s.nodes) nodes
    → Extends nodes (nodes_of s order)
first_nodes s order nodes records behind is below = grind (arith, nodes_first)

module _ (fixed : ℕ) (s : Parts) (h : ArePartsInRange fixed s) where
  -- what a walk meets names only what it meets
  module _ (roots : List ℕ) (rooted : IsRooted (all_cells s) roots) where
    abbrev order : List ℕ
    order = order_of (all_cells s) roots

    part_met : (x : ℕ) (p : Part) → Has order x → content_at (all_cells s) x ≡ part_cell (length s.nodes) p
        → IsPartBelow (length s.nodes) (length s.records) p → IsPartMet (nodes_of s order) (records_of s order) p
    part_met x p g e b =
        let k = place_from_has order x g in
        names_met (length s.nodes) (length s.records) order p.nodes p.records
        (recursion_from_All _ _ b.nodes) (recursion_from_All _ _ b.records)
        (rw e at (order_closed (all_cells s) roots rooted k.0 x (get_place order x k.0 k.1)))

    order_met : Extends (numbers_from 0 fixed) (nodes_of s order)
        → AreMet fixed s (nodes_of s order) (records_of s order)
    order_met first =
        let n = length s.nodes in
        let r = length s.records in
        let distinct = (met_in_order (all_cells s) roots rooted (length (all_cells s))).distinct in
        record {
          nodes_distinct = filter_distinct _ order distinct;
          records_distinct = records_distinct n order r distinct;
          nodes_below = nodes_below n order;
          records_below = records_below n order r;
          fixed_first = first;
          nodes_closed = λ x g.
              let k = node_has n order x g in
              part_met x _ k.0 (node_at s x k.1) (part_all (IsPartBelow n r) s.nodes h.nodes x k.1);
          records_closed = λ y g.
              let k = record_has n order r y g in
              part_met (n + y) _ k.0 (record_at s y k.1) (part_all (IsPartBelow n r) s.records h.records y k.1);
        }

  -- ---- the front

  fixed_all : (m : ℕ) → length s.nodes ≤ m → All (λ x. x < m) (numbers_from 0 fixed)
  fixed_all m l = numbers_all (λ x. x < m) 0 fixed (omega (arith, h.fixed_in_range))

  pub fixed_cells : IsRooted (all_cells s) (numbers_from 0 fixed)
  fixed_cells =
      cells_rooted fixed s h _ (fixed_all _ (omega (arith, length-cells s))) (distinct_in_row 0 fixed).distinct

  -- what is held plays no part in it
  pub front_same : order_of (all_cells s) (numbers_from 0 fixed) ≡ front_order fixed s
  front_same =
      order_front (parts_graph s) (parts_held s) (numbers_from 0 fixed)
      (graph_rooted fixed s h _ (fixed_all _ (omega (arith, length-parts_graph s))) (distinct_in_row 0 fixed).distinct)

  pub front_met : AreMet fixed s (front_nodes fixed s) (front_records fixed s)
  front_met =
      let first = met_in_extends (all_cells s) (numbers_from 0 fixed) (length (all_cells s)) in
      subst (λ o. AreMet fixed s (nodes_of s o) (records_of s o)) front_same
      (order_met (numbers_from 0 fixed) fixed_cells
      (first_nodes s _ (numbers_from 0 fixed) [] first.rest (rw append-nil first.is)
      (recursion_from_All _ _ (fixed_all _ (omega arith)))))

  -- ---- behind nodes and records that have what they name

  module _ (nodes records : List ℕ) (met : AreMet fixed s nodes records) where
    -- nodes come before records, and these before what is held
    pub rooted_behind : IsRooted (all_cells s) (roots_behind s nodes records)
    rooted_behind =
        let n = length s.nodes in
        let m = length (parts_graph s) in
        let held = length (parts_held s) in
        let long : m ≡ n + length s.records = length-parts_graph s in
        let more : length (all_cells s) ≡ m + held = length-append (parts_graph s) (parts_held s) in
        let below : AreDistinctIn 0 n nodes = grind (arith, All-from_recursion) in
        let beneath : AreDistinctIn 0 (length s.records) records = grind (arith, All-from_recursion) in
        let raised = distinct_in_raised n _ records beneath in
        let graph = distinct_in_join 0 n n _ nodes _ (omega arith) below raised in
        let roots =
        distinct_in_join 0 _ m _ (as_cells n nodes records) _ (omega arith) graph (distinct_in_row m held) in
        cells_rooted fixed s h _ (λ k d l. omega (arith, roots.within k d l)) roots.distinct

    abbrev all : List ℕ
    all = order_behind nodes records s

    all_behind : Extends (roots_behind s nodes records) all
    all_behind = met_in_extends (all_cells s) (roots_behind s nodes records) (length (all_cells s))

    begins : all ≡ as_cells (length s.nodes) nodes records
        ++ (numbers_from (length (parts_graph s)) (length (parts_held s)) ++ all_behind.rest)
    begins = all_behind.is ∙ append_assoc (as_cells (length s.nodes) nodes records) _ _

    -- they stay in front
    pub nodes_extended : Extends nodes (nodes_met (length s.nodes) (order_behind nodes records s))
    nodes_extended = first_nodes s _ nodes records _ begins met.nodes_below

    pub records_extended : Extends records
        (records_met (length s.nodes) (length s.records) (order_behind nodes records s))
    records_extended = grind (arith, begins, records_first)

    behind_met : AreMet fixed s (nodes_of s all) (records_of s all)
    behind_met =
        order_met (roots_behind s nodes records) rooted_behind (extends_more met.fixed_first nodes_extended)

    held_has : (i : ℕ) → i < length s.held → Has all (length (parts_graph s) + i)
    held_has i l =
        let m = length (parts_graph s) in
        let among = has_at (numbers_from m (length (parts_held s))) i (m + i) (number_at m _ i (simp length-map l)) in
        has_extends all_behind (m + i) (rw (list_any-append, among) (or-true _))

    held_met : AllByRecursion (IsPartMet (nodes_of s all) (records_of s all)) s.held
    held_met =
        recursion_from_All _ s.held
        (all_parts (IsPartMet (nodes_of s all) (records_of s all)) s.held (λ i l.
        (part_met (roots_behind s nodes records) rooted_behind (length (parts_graph s) + i) _ (held_has i l)
        (held_at s i l) (part_all (IsPartBelow (length s.nodes) (length s.records)) s.held h.held i l))))

  pub walk_met : AreMet fixed s (met_nodes fixed s) (met_records fixed s)
  walk_met = behind_met (front_nodes fixed s) (front_records fixed s) front_met

  pub walk_held : AllByRecursion (IsPartMet (met_nodes fixed s) (met_records fixed s)) s.held
  walk_held = held_met (front_nodes fixed s) (front_records fixed s) front_met

  -- each node and each record with its place is a pairing with the canonical parts
  pub places_paired : IsPartsPairing (IsAmong (places (met_nodes fixed s))) (IsAmong (places (met_records fixed s)))
      fixed s (canonical_parts fixed s)
  places_paired = by_paired (met_nodes fixed s) (met_records fixed s) fixed s walk_met walk_held

  -- canonical parts can be paired with the parts that they come from
  pub canonical_paired : CanPartsBePaired fixed s (canonical_parts fixed s)
  canonical_paired = (places (met_nodes fixed s), places (met_records fixed s), places_paired)

  -- they are in range
  pub canonical_in_range : ArePartsInRange fixed (canonical_parts fixed s)
  canonical_in_range =
      by_in_range (met_nodes fixed s) (met_records fixed s) fixed s
      (omega (arith, ap length walk_met.fixed_first.is, length-append {A = ℕ}, length-numbers_from))

  -- the roots of the second walk
  pub front_roots : IsRooted (all_cells s) (roots_behind s (front_nodes fixed s) (front_records fixed s))
  front_roots = rooted_behind (front_nodes fixed s) (front_records fixed s) front_met
