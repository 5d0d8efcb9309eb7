-- Canonical parts of two states.
use Rattle.std.proofs.Common.{◌≡◌, ℕ, ◌-◌, ◌↔◌, List, length, refl, arith}
use Rattle.std.specs.List.{AllZip, zip}
use Rattle.std.proofs.lemmas.List.{length-map}
use Rattle.tree_machine.specs.Pairing.{IsAmong}
use Rattle.tree_machine.specs.Graphs.{numbers_from}
use Rattle.tree_machine.specs.Parts.{Parts, IsPartsPairing, ArePartsInRange, parts_held, CanPartsBePaired}
use Rattle.tree_machine.specs.Canonical.{nodes_met, records_met, front_order, front_nodes, front_records}
use Rattle.tree_machine.specs.Canonical.{parts_order, met_nodes, met_records, canonical_parts}
use Rattle.tree_machine.specs.Laws.Cells.{AllZip-weaker, orders_paired}
use Rattle.tree_machine.specs.Laws.CellLists.{numbers_zip, zip_join}
use Rattle.tree_machine.specs.Laws.PartCells.{all_cells, length-parts_graph, Paired, held_long, cells_pairing}
use Rattle.tree_machine.specs.Laws.PartCells.{paired_node}
use Rattle.tree_machine.specs.Laws.MetLists.{PassAlike, filter_zip, is_node, is_record, map_zip}
use Rattle.tree_machine.specs.Laws.PartsBy.{by_same, paired_from_same}
use Rattle.tree_machine.specs.Laws.Canonical.{fixed_cells, front_met, front_same}
use Rattle.tree_machine.specs.Laws.Canonical.{roots_behind, rooted_behind, walk_held, walk_met}

module _ (P R : ℕ → ℕ → Type 0) (fixed : ℕ) (s t : Parts) (h : ArePartsInRange fixed s) (g : ArePartsInRange fixed t)
    (p : IsPartsPairing P R fixed s t) where
  -- both are nodes that P pairs, or neither is a node
  nodes_apart : (x y : ℕ) → Paired P R s t x y
      → PassAlike (is_node (length s.nodes)) (is_node (length t.nodes)) P x y
  nodes_apart x y q = grind arith

  -- both are records that R pairs, or neither is a record
  records_apart : (x y : ℕ) → Paired P R s t x y
      → PassAlike (is_record (length s.nodes) (length s.records)) (is_record (length t.nodes) (length t.records))
      (λ x y. R (x - length s.nodes) (y - length t.nodes)) x y
  records_apart x y q = grind arith

  -- orders that are paired have paired nodes and paired records
  split_pairs : (xs ys : List ℕ) → AllZip (Paired P R s t) xs ys
      → AllZip P (nodes_met (length s.nodes) xs) (nodes_met (length t.nodes) ys)
      × AllZip R (records_met (length s.nodes) (length s.records) xs)
      (records_met (length t.nodes) (length t.records) ys)
  split_pairs xs ys z = grind (arith, filter_zip, nodes_apart, map_zip, records_apart)

  -- what comes in front is paired, like by like
  pub fronts_paired : AllZip P (front_nodes fixed s) (front_nodes fixed t)
      × AllZip R (front_records fixed s) (front_records fixed t)
  fronts_paired =
      let z =
      orders_paired (Paired P R s t) (all_cells s) (all_cells t) (numbers_from 0 fixed) (numbers_from 0 fixed)
      (fixed_cells fixed s h) (fixed_cells fixed t g)
      (cells_pairing P R s t fixed p (numbers_from 0 fixed) (numbers_from 0 fixed)
      (numbers_zip (Paired P R s t) 0 0 fixed fixed refl (λ i x y l e f.
      let same : x ≡ y = omega arith in
      rw same (paired_node P R s t fixed p y y (p.fixed_paired y (omega arith)))))) in
      split_pairs (front_order fixed s) (front_order fixed t) (rw (front_same fixed s h, front_same fixed t g) at z)

  roots_paired : AllZip (Paired P R s t) (roots_behind s (front_nodes fixed s) (front_records fixed s))
      (roots_behind t (front_nodes fixed t) (front_records fixed t))
  roots_paired =
      let Q : ℕ → ℕ → Type 0 = Paired P R s t in
      let front = fronts_paired in
      let long : length (parts_held s) ≡ length (parts_held t) = simp length-map (held_long P R s t fixed p) in
      let node = paired_node P R s t fixed p in
      grind (arith, length-map, zip_join, AllZip-weaker, map_zip, numbers_zip, length-parts_graph)

  -- and so is all that is met
  pub same_from_pairing : canonical_parts fixed s ≡ canonical_parts fixed t
  same_from_pairing =
      let z =
      split_pairs (parts_order fixed s) (parts_order fixed t)
      (orders_paired (Paired P R s t) (all_cells s) (all_cells t) _ _
      (rooted_behind fixed s h _ _ (front_met fixed s h)) (rooted_behind fixed t g _ _ (front_met fixed t g))
      (cells_pairing P R s t fixed p _ _ roots_paired)) in
      by_same P R fixed s t _ _ _ _ p z.0 z.1

-- canonical parts are equal exactly if the parts can be paired
pub canonical_exactly : (fixed : ℕ) (s t : Parts) → ArePartsInRange fixed s → ArePartsInRange fixed t
    → (canonical_parts fixed s ≡ canonical_parts fixed t) ↔ CanPartsBePaired fixed s t
canonical_exactly fixed s t h g = (
  λ e. (
    zip (met_nodes fixed s) (met_nodes fixed t),
    zip (met_records fixed s) (met_records fixed t),
    paired_from_same fixed s t _ _ _ _ (walk_met fixed s h) (walk_met fixed t g) (walk_held fixed s h)
        (walk_held fixed t g) e,
  ),
  λ p. same_from_pairing (IsAmong p.0) (IsAmong p.1) fixed s t h g p.2,
)
