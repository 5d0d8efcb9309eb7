-- Parts as cells: nodes, behind them records, and behind these what is held; paired parts are paired cells.
use Rattle.std.proofs.Common.{◌≡◌, ℕ, ◌+◌, ◌-◌, ◌<◌, ◌≤◌, ◌⊎◌, List, ◌++◌, map, length}
use Rattle.std.proofs.Common.{◌∙◌, inl, inr, arith, length-append}
use Rattle.std.specs.Prelude.{Option, IfSome, nat_eq}
use Rattle.std.specs.List.{AllZip, All, IsDistinct}
use Rattle.std.specs.Option.{option_map}
use Rattle.std.proofs.lemmas.List.{length-map}
use Rattle.std.proofs.lemmas.List.Elements.{All-append, All-from_get_or, All-get_or, All-map, All-weaker}
use Rattle.std.proofs.lemmas.List.Elements.{AllZip-get_or, length_all_zip}
use Rattle.std.proofs.lemmas.Option.{IfSome_then, slice_get-get_or, slice_get-map, unwrap_or-slice_get}
use Rattle.tree_machine.specs.Cells.{Content, content_at, IsPairedOrNone, IsPairing, IsRooted}
use Rattle.tree_machine.specs.Parts.{Part, Parts, part_at, ArePartsPaired, IsPartsPairing, IsPartBelow, ArePartsInRange}
use Rattle.tree_machine.specs.Parts.{no_part, part_cell, parts_graph, parts_held}
use Rattle.tree_machine.specs.Laws.CellLists.{content_front, content_back, zip_join}
use Rattle.tree_machine.specs.Laws.Cells.{AllZip-weaker}
use Rattle.tree_machine.specs.Laws.MetLists.{map_zip}

-- ---- the cells of all parts

content_map : (f : Part → Content) (parts : List Part) (x : ℕ) → x < length parts
    → content_at (map f parts) x ≡ f (part_at parts x)
content_map f parts x l = rw (slice_get-map, slice_get-get_or parts x no_part l)

-- what holds of all parts holds of part x
pub part_all : (P : Part → Type 0) (parts : List Part) → All P parts → (x : ℕ) → x < length parts → P (part_at parts x)
part_all P parts h x l = rw unwrap_or-slice_get (All-get_or P parts x no_part l h)

-- and what holds of each part x holds of all parts
pub all_parts : (P : Part → Type 0) (parts : List Part) → ((x : ℕ) → x < length parts → P (part_at parts x))
    → All P parts
all_parts P parts f =
    All-from_get_or P parts no_part (λ x l. rw (← unwrap_or-slice_get parts x no_part) (f x l))

pub length-parts_graph : (s : Parts) → length (parts_graph s) ≡ length s.nodes + length s.records
length-parts_graph s = simp (length-append, length-map)

-- nodes, records and what is held, as cells
abbrev pub all_cells : Parts → List Content
all_cells s = parts_graph s ++ parts_held s

pub length-cells : (s : Parts) → length (all_cells s) ≡ length s.nodes + length s.records + length s.held
length-cells s = simp (length-append, length-map)

-- nodes, records and what is held, among all cells
pub node_at : (s : Parts) (x : ℕ) → x < length s.nodes
    → content_at (all_cells s) x ≡ part_cell (length s.nodes) (part_at s.nodes x)
node_at s x l = grind (arith, content_front, length-parts_graph, length-map, content_map)

pub record_at : (s : Parts) (y : ℕ) → y < length s.records
    → content_at (all_cells s) (length s.nodes + y) ≡ part_cell (length s.nodes) (part_at s.records y)
record_at s y l = grind (arith, content_front, length-parts_graph, length-map, content_back, content_map)

pub held_at : (s : Parts) (i : ℕ) → i < length s.held
    → content_at (all_cells s) (length (parts_graph s) + i) ≡ part_cell (length s.nodes) (part_at s.held i)
held_at s i l = content_back (parts_graph s) _ i ∙ content_map (part_cell (length s.nodes)) s.held i l

-- each ref is none or below n
abbrev pub RefsBelow : ℕ → Content → Type 0
RefsBelow n c = All (λ r. IfSome r (λ x. x < n)) c.refs

part_refs_below : (n r m : ℕ) → n + r ≤ m → (p : Part) → IsPartBelow n r p → RefsBelow m (part_cell n p)
part_refs_below n r m l p h =
    All-append (λ x. IfSome x (λ y. y < m)) p.nodes _
    (All-weaker _ _ (λ x k. IfSome_then x {P = λ y. y < n} {Q = λ y. y < m} k (λ y less. omega arith)) p.nodes h.nodes)
    (All-map (λ x. IfSome x (λ y. y < m)) _ p.records (All-weaker _ _ raised p.records h.records))
  where
    raised : (x : Option ℕ) → IfSome x (λ y. y < r) → IfSome (option_map (λ x. n + x) x) (λ y. y < m)
    raised x k = grind arith

module _ (fixed : ℕ) (s : Parts) (h : ArePartsInRange fixed s) where
  cells_below : (m : ℕ) → length s.nodes + length s.records ≤ m → (parts : List Part)
      → All (IsPartBelow (length s.nodes) (length s.records)) parts
      → All (RefsBelow m) (map (part_cell (length s.nodes)) parts)
  cells_below m l parts k =
      All-map (RefsBelow m) _ parts (All-weaker _ _ (part_refs_below _ (length s.records) m l) parts k)

  graph_below : (m : ℕ) → length s.nodes + length s.records ≤ m → All (RefsBelow m) (parts_graph s)
  graph_below m l =
      All-append (RefsBelow m) _ _ (cells_below m l s.nodes h.nodes) (cells_below m l s.records h.records)

  -- distinct nodes, records and held cells are roots
  pub cells_rooted : (roots : List ℕ) → All (λ x. x < length (all_cells s)) roots → IsDistinct nat_eq roots
      → IsRooted (all_cells s) roots
  cells_rooted roots range distinct =
      let long = length-cells s in
      record {
        roots_in_range = range;
        roots_distinct = distinct;
        refs_in_range =
            All-append (RefsBelow (length (all_cells s))) _ _
            (graph_below _ (omega arith)) (cells_below _ (omega arith) s.held h.held);
      }

  -- distinct nodes and records are roots of the graph
  pub graph_rooted : (roots : List ℕ) → All (λ x. x < length (parts_graph s)) roots → IsDistinct nat_eq roots
      → IsRooted (parts_graph s) roots
  graph_rooted roots range distinct = grind (arith, graph_below, length-parts_graph)

-- ---- paired parts

-- equal facts, and refs that are paired place by place
pub record AreCellsPaired (P : ℕ → ℕ → Type 0) (c d : Content) : Type 0 where
  pub facts : c.facts ≡ d.facts
  pub refs : AllZip (IsPairedOrNone P) c.refs d.refs

-- P pairs numbers below n with numbers below m, and Q pairs those from there on
abbrev pub BelowOrBehind : ℕ → ℕ → (ℕ → ℕ → Type 0) → (ℕ → ℕ → Type 0) → ℕ → ℕ → Type 0
BelowOrBehind n m P Q x y = ((x < n) × (y < m) × P x y) ⊎ ((n ≤ x) × (m ≤ y) × Q (x - n) (y - m))

module _ (P R : ℕ → ℕ → Type 0) (s t : Parts) where
  -- paired records, or what is held at one place
  abbrev pub PairedBehind : ℕ → ℕ → Type 0
  PairedBehind = BelowOrBehind (length s.records) (length t.records) R (λ i j. (i ≡ j) × (i < length s.held))

  -- paired nodes, and these behind them
  abbrev pub Paired : ℕ → ℕ → Type 0
  Paired = BelowOrBehind (length s.nodes) (length t.nodes) P PairedBehind

  module _ (fixed : ℕ) (h : IsPartsPairing P R fixed s t) where
    pub held_long : length s.held ≡ length t.held
    held_long = length_all_zip (ArePartsPaired P R) s.held t.held h.held_paired

    pub paired_node : (x y : ℕ) → P x y → Paired x y
    paired_node x y p = let r = h.nodes_in_range x y p in inl (r.0, r.1, p)

    pub paired_record : (x y : ℕ) → R x y → Paired (length s.nodes + x) (length t.nodes + y)
    paired_record x y p = inr (omega arith, omega arith, grind (arith, h.records_in_range x y p, p))

    cells_paired : (a b : Part) → ArePartsPaired P R a b
        → AreCellsPaired Paired (part_cell (length s.nodes) a) (part_cell (length t.nodes) b)
    cells_paired a b k =
        grind (arith, length_all_zip, zip_join, AllZip-weaker, paired_node, map_zip, paired_record)

    paired_cells : (x y : ℕ) → Paired x y
        → AreCellsPaired Paired (content_at (all_cells s) x) (content_at (all_cells t) y)
    paired_cells x y (inl (l, k, p)) = rw (node_at s x l, node_at t y k) (cells_paired _ _ (h.nodes_paired x y p))
    paired_cells x y (inr (l, k, inl (i, j, p))) =
        grind (arith, record_at s (x - length s.nodes), record_at t (y - length t.nodes), cells_paired)
    paired_cells x y (inr (l, k, inr (g, j, p))) =
        let a = x - length s.nodes - length s.records in
        let e : length (parts_graph s) + a ≡ x = omega (arith, length-parts_graph s) in
        let f : length (parts_graph t) + a ≡ y = omega (arith, length-parts_graph t) in
        grind (arith, held_at, held_long, cells_paired, unwrap_or-slice_get, AllZip-get_or)

    -- paired parts are paired cells, from all roots that are paired
    pub cells_pairing : (roots targets : List ℕ) → AllZip Paired roots targets
        → IsPairing Paired (all_cells s) roots (all_cells t) targets
    cells_pairing roots targets z = grind (arith, length-cells s, length-cells t, held_long, paired_cells)
