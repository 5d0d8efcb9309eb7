-- A walk from what the threads hold, behind a front: they are written, and what only they lead to is left.
use Rattle.std.proofs.Common.{◌≡◌, ℕ, suc, ◌+◌, ◌<◌, List, [], ◌∷◌, ◌++◌, map, length, take, drop, refl, sym, ◌∙◌, ap}
use Rattle.std.proofs.Common.{arith, append_assoc, append-nil, length-append, add-zero, zero, ◌≤◌, inl, inr, add-one}
use Rattle.std.proofs.Common.{◌-◌, Bool, false, ◌⊎◌, slice_get, Some, None, Result, Ok, Err, OnOk, Option, length-take}
use Rattle.std.proofs.Math.Seq.{drop-append_seam, take-append_seam, drop-length}
use Rattle.std.proofs.lemmas.List.{length-map, map-append, nil_from_length}
use Rattle.std.proofs.lemmas.List.Elements.{All-nil, recursion_from_All}
use Rattle.std.proofs.lemmas.Option.{slice_get_past}
use Rattle.std.specs.List.{filter}
use Rattle.tree_machine.specs.Canonical.{as_cells, nodes_met, records_met, renamed_part, canonical_parts}
use Rattle.tree_machine.specs.Canonical.{canonical_front, front_nodes, front_records}
use Rattle.tree_machine.specs.Cells.{Content, IsRooted, content_at, met_in, order_of, met_all}
use Rattle.tree_machine.specs.Coding.{Coding, IsWalk, coded_parts, with_part, with_parts, nodes_by, records_by}
use Rattle.tree_machine.specs.Flat.{behind_code, graph_code, left_code}
use Rattle.tree_machine.specs.Graphs.{numbers_from}
use Rattle.tree_machine.specs.Parts.{Part, Parts, part_at, part_cell, parts_graph, parts_held, ArePartsInRange}
use Rattle.tree_machine.specs.Parts.{IsPartBelow}
use Rattle.tree_machine.specs.Laws.Canonical.{front_met, front_roots, roots_behind}
use Rattle.tree_machine.specs.Laws.CellOrder.{Extends, get_append, HasAll, all_has}
use Rattle.tree_machine.specs.Laws.Graphs.{length-numbers_from}
use Rattle.tree_machine.specs.Laws.MetLists.{nodes_first, number_at, records_first, filter_none, test_other}
use Rattle.tree_machine.specs.Laws.MetLists.{test_behind}
use Rattle.tree_machine.specs.Laws.PartCells.{held_at, node_at, record_at, length-parts_graph}
use Rattle.tree_machine.specs.Laws.PartsBy.{AreMet, IsPartMet}
use Rattle.tree_machine.specs.Laws.CellPlaces.{has_at}
use Rattle.tree_machine.specs.Laws.CellLists.{numbers_all}
use Rattle.tree_machine.proofs.Codings.{met_newly, numbers_extend, parts_written, left_some, met_old}
use Rattle.tree_machine.proofs.Lists.{get-append_right, get_at, get-append_cases, get-map}
use Rattle.tree_machine.proofs.NamesMet.{nodes_append, records_append, extends_by}
use Rattle.tree_machine.proofs.Trails.{met_in_ended, met_in_within, walk_next}
use Rattle.tree_machine.proofs.VisitedParts.{part_within}

-- what follows from both, if there is a value
pub ok_both : {T E P Q R : Type 0} (r : Result T E) → (P → Q → R) → OnOk r P → OnOk r Q → OnOk r R
ok_both (Ok x) f p q = f p q
ok_both (Err e) f p q = tt

-- the lesser of a front and of all parts is how many parts the front takes
pub taken : {f r a b : ℕ} (ps : List Part) → (r ≤ a) × (r ≤ b) → (r ≡ a) ⊎ (r ≡ b) → a ≡ f → b ≡ length ps
    → r ≡ length (take f ps)
taken {f} ps least one front all = grind (arith, length-take f ps)

-- a coder that has numbered the front
pub record HasFront (fixed : ℕ) (s : Parts) (c : Coding) : Type 0 where
  pub in_range : ArePartsInRange fixed s
  pub nodes_below : length s.nodes ≡ c.nodes_below
  pub records_below : length s.records ≡ c.records_below
  pub nodes : c.nodes ≡ front_nodes fixed s
  pub records : c.records ≡ front_records fixed s

-- ---- the visits of a front: what it names has numbers, so they change nothing

-- what is met is not met again
met_all_old : (refs : List (Option ℕ)) (order : List ℕ) → HasAll order refs → met_all order refs ≡ order
met_all_old [] order h = refl
met_all_old (None ∷ refs) order h = met_all_old refs order h
met_all_old (Some x ∷ refs) order h =
    ap (λ o. met_all o refs) (met_old order x h.0) ∙ met_all_old refs order h.1

module _ {fixed : ℕ} (s : Parts) (range : ArePartsInRange fixed s) (c : Coding)
    (met : AreMet fixed s c.nodes c.records) (more : List ℕ) where
  abbrev front : List ℕ
  front = as_cells (length s.nodes) c.nodes c.records

  -- a cell of the front is a node or a record, and what it names has numbers
  front_part : (k x : ℕ) → slice_get front k ≡ Some x → (p : Part)
      × (content_at (parts_graph s ++ parts_held s) x ≡ part_cell (length s.nodes) p)
      × IsPartBelow (length s.nodes) (length s.records) p × IsPartMet c.nodes c.records p
  front_part k x at =
      elim (get-append_cases c.nodes (map (λ y. length s.nodes + y) c.records) k x at) [
        | inl e ↦
            let has = has_at c.nodes k x e in (
              part_at s.nodes x,
              node_at s x (all_has _ c.nodes met.nodes_below x has),
              part_within s.nodes x (omega arith) (omega arith) range.nodes,
              met.nodes_closed x has,
            )
        | inr e ↦
            let y = get-map (λ y. length s.nodes + y) c.records e.0 x e.2 in
            let has = has_at c.records e.0 y.0 y.1 in (
              part_at s.records y.0,
              ap (content_at (parts_graph s ++ parts_held s)) y.2
                  ∙ record_at s y.0 (all_has _ c.records met.records_below y.0 has),
              part_within s.records y.0 (omega arith) (omega arith) range.records,
              met.records_closed y.0 has,
            )
      ]

  -- the visits of the front change nothing
  front_walked : IsWalk s (front ++ more) (front ++ more) 0 c → (k : ℕ) → k ≤ length front
      → IsWalk s (front ++ more) (front ++ more) k c
  front_walked w zero l = w
  front_walked w (suc k) l =
      let x = get_at front k (omega arith) in
      let p = front_part k x.0 x.1 in
      let same : with_part c p.0 ≡ c =
      rw (met_all_old p.0.nodes c.nodes p.3.0, met_all_old p.0.records c.records p.3.1)
      (simp (drop-length, append-nil)) in
      rw (← add-one k)
      (rw same at (walk_next s (front ++ more) (front ++ more) k c x.0 p.0 (front_walked w k (omega arith))
      (get_append (front ++ more) c.queue k x.0 (get_append front more k x.0 x.1)) p.1 p.2))

-- ---- parts that are visited one behind the other

-- as many as are new go into the queue
queue_long : (c : Coding) (ps : List Part)
    → length (with_parts c ps).queue + (length c.nodes + length c.records)
    ≡ length c.queue + (length (with_parts c ps).nodes + length (with_parts c ps).records)
queue_long c [] = refl
queue_long c (p ∷ ps) =
    omega (
      arith,
      queue_long (with_part c p) ps,
      ap length (met_newly c.nodes p.nodes),
      ap length (met_newly c.records p.records),
      length-append {A = ℕ},
      length-map {A = ℕ} {B = ℕ},
    )

module _ (s : Parts) (roots : List ℕ) where
  -- a part that is at a place of the roots
  abbrev IsRoot : ℕ → Part → Type 0
  IsRoot v p = (x : ℕ) × (slice_get roots v ≡ Some x)
      × (content_at (parts_graph s ++ parts_held s) x ≡ part_cell (length s.nodes) p)
      × IsPartBelow (length s.nodes) (length s.records) p

  -- parts that are the next roots are visited
  parts_walked : (v : ℕ) (c : Coding) (ps : List Part)
      → ((i : ℕ) → i < length ps → IsRoot (v + i) (part_at ps i)) → IsWalk s roots roots v c
      → IsWalk s roots roots (v + length ps) (with_parts c ps)
  parts_walked v c [] at w = rw (add-zero v) w
  parts_walked v c (p ∷ ps) at w =
      let here : IsRoot v p = rw (add-zero v) at (at 0 (omega arith)) in
      let long : v + suc (length ps) ≡ v + 1 + length ps = omega arith in
      rw long
      (parts_walked (v + 1) (with_part c p) ps
      (λ i l. (let next : v + 1 + i ≡ v + suc i = omega arith in rw next (at (suc i) (omega arith))))
      (walk_next s roots roots v c here.0 p w (get_append roots c.queue v here.0 here.1) here.2
      here.3))

-- ---- behind a front

-- what threads hold is no node and no record
module _ (s : Parts) where
  abbrev held_cells : List ℕ
  held_cells = numbers_from (length (parts_graph s)) (length (parts_held s))

  none_passes : (p : ℕ → Bool) → ((x : ℕ) → length s.nodes + length s.records ≤ x → p x ≡ false)
      → filter p held_cells ≡ []
  none_passes p h =
      filter_none p held_cells
      (recursion_from_All _ _ (numbers_all _ _ _ (λ x g l. h x (omega (arith, length-parts_graph s)))))

  held_no_nodes : nodes_met (length s.nodes) held_cells ≡ []
  held_no_nodes = none_passes _ (λ x l. test_other (length s.nodes) x (omega arith))

  held_no_records : records_met (length s.nodes) (length s.records) held_cells ≡ []
  held_no_records = ap (map (λ x. x - length s.nodes)) (none_passes _ (test_behind (length s.nodes) (length s.records)))

-- what is left of parts behind those in front
parts_left : (f : ℕ → Part) (xs ys zs : List ℕ) → zs ≡ xs ++ ys → drop (length xs) (map f zs) ≡ map f ys
parts_left f xs ys zs e = rw (e, map-append f xs ys, ← length-map xs f, drop-append_seam)

module _ {fixed : ℕ} {s : Parts} {old : Coding} (h : HasFront fixed s old) where
  -- the coder with an empty queue, and once what the threads hold is visited
  abbrev c : Coding
  c = record old { queue = [] }

  abbrev pub held : Coding
  held = with_parts c s.held

  -- the roots of the walk, and all cells
  abbrev pub roots : List ℕ
  roots = roots_behind s old.nodes old.records

  abbrev cells : List Content
  cells = parts_graph s ++ parts_held s

  rooted : IsRooted cells roots
  rooted = rw (h.nodes, h.records) (front_roots fixed s h.in_range)

  met : AreMet fixed s old.nodes old.records
  met = rw (h.nodes, h.records) (front_met fixed s h.in_range)

  -- the roots have the nodes and the records of the front
  root_nodes : nodes_met (length s.nodes) roots ≡ old.nodes
  root_nodes = grind (arith, nodes_first, met, held_no_nodes, append-nil)

  root_records : records_met (length s.nodes) (length s.records) roots ≡ old.records
  root_records = grind (arith, records_first, met, held_no_records, append-nil)

  -- what the threads hold is visited behind the front
  held_walked : IsWalk s roots roots (length roots) held
  held_walked =
      let front = as_cells (length s.nodes) old.nodes old.records in
      let m = length (parts_graph s) in
      let k = length (parts_held s) in
      let many : k ≡ length s.held = length-map s.held (part_cell (length s.nodes)) in
      let long : length roots ≡ length front + length s.held =
      omega (arith, length-append front (numbers_from m k), length-numbers_from m k) in
      rw long
      (parts_walked s roots (length front) c s.held
      (λ i l. (
        m + i,
        get-append_right front (numbers_from m k) i (m + i) (number_at m k i (omega arith)),
        held_at s i l,
        part_within s.held i (omega arith) (omega arith) h.in_range.held,
      ))
      (front_walked s h.in_range c met (numbers_from m k)
      (record {
        met = append-nil roots;
        nodes = sym (ap (nodes_met (length s.nodes)) (append-nil roots) ∙ root_nodes);
        records = sym (ap (records_met (length s.nodes) (length s.records)) (append-nil roots) ∙ root_records);
        nodes_below = sym h.nodes_below;
        records_below = sym h.records_below;
        graph = All-nil _;
      })
      (length front) (omega arith)))

  module _ {v : ℕ} {d : Coding} (w : IsWalk s roots roots v d) (all : roots ++ d.queue ≡ order_of cells roots) where
    -- a walk that met all keeps the numbers that there are
    more_nodes : Extends held.nodes d.nodes
    more_nodes =
        rw (held_walked.nodes, w.nodes, held_walked.met, all)
        (extends_by (nodes_met _) (nodes_append _) (met_in_within cells roots rooted (length roots)))

    more_records : Extends held.records d.records
    more_records =
        rw (held_walked.records, w.records, held_walked.met, all)
        (extends_by (records_met _ _) (records_append _ _) (met_in_within cells roots rooted (length roots)))

    -- it has numbered the front, and then what is in its queue
    all_nodes : d.nodes ≡ old.nodes ++ nodes_met (length s.nodes) d.queue
    all_nodes = rw (w.nodes, nodes_append (length s.nodes) roots d.queue, root_nodes)

    all_records : d.records ≡ old.records ++ records_met (length s.nodes) (length s.records) d.queue
    all_records = rw (w.records, records_append (length s.nodes) (length s.records) roots d.queue, root_records)

    -- where its queue is written behind what the threads hold, all that is behind the front is written
    behind_written : (bytes : List ℕ) {then end : List ℕ} → then ≡ bytes ++ coded_parts c s.held
        → end ≡ then ++ left_code (nodes_by d s d.queue) (records_by d s d.queue)
        → end ≡ bytes ++ behind_code (canonical_front fixed s) (canonical_parts fixed s)
    behind_written bytes first put =
        rw (
          ← h.nodes,
          ← h.records,
          ← all,
          ← w.nodes,
          ← w.records,
          parts_left (λ x. renamed_part d.nodes d.records (part_at s.nodes x)) old.nodes _ d.nodes all_nodes,
          parts_left (λ y. renamed_part d.nodes d.records (part_at s.records y)) old.records _ d.records all_records,
        )
        ((rw (first, parts_written c s.held d.nodes d.records more_nodes more_records) at put)
        ∙ append_assoc bytes _ _)

  -- where what the threads hold names nothing new, nothing is left
  pub none_left : (bytes : List ℕ) {then : List ℕ} → length held.nodes ≡ length old.nodes
      → length held.records ≡ length old.records → then ≡ bytes ++ coded_parts c s.held
      → then ≡ bytes ++ behind_code (canonical_front fixed s) (canonical_parts fixed s)
  none_left bytes {then} same alike first =
      let queued = nil_from_length held.queue (omega (arith, queue_long c s.held, same, alike)) in
      let met = rw (queued, append-nil roots) at held_walked.met in
      let past : slice_get (met_in cells roots (length roots)) (length roots) ≡ None =
      rw (← met) (slice_get_past roots (length roots) (omega arith)) in
      behind_written held_walked (held_walked.met ∙ met_in_ended cells roots rooted (length roots) past) bytes first
      (rw queued (sym (append-nil then)))

  -- what is left is written behind them
  pub all_left : (d : Coding) (bytes : List ℕ) {then end : List ℕ}
      → (length held.nodes ≡ length old.nodes → length held.records ≡ length old.records → ⊥)
      → then ≡ bytes ++ coded_parts c s.held → IsWalk s roots roots (length cells) d
      → end ≡ then ++ graph_code (nodes_by d s d.queue) (records_by d s d.queue)
      → end ≡ bytes ++ behind_code (canonical_front fixed s) (canonical_parts fixed s)
  all_left d bytes {then} some first w put =
      let some_left : 0 < length (nodes_by d s d.queue) + length (records_by d s d.queue) =
      grind (
        arith,
        some,
        ap length (numbers_extend c s.held).0.is,
        ap length (numbers_extend c s.held).1.is,
        ap length (more_nodes w w.met).is,
        ap length (more_records w w.met).is,
        ap length (all_nodes w w.met),
        ap length (all_records w w.met),
        length-append {A = ℕ},
        length-map {A = ℕ} {B = Part},
      ) in
      behind_written w w.met bytes first (put ∙ ap (λ l. then ++ l) (sym (left_some _ _ some_left)))

  -- the nodes and the records that had numbers before are those of the front
  pub front_kept : roots_behind s (take (length old.nodes) held.nodes) (take (length old.records) held.records) ≡ roots
  front_kept =
      let more = numbers_extend c s.held in
      rw (more.0.is, more.1.is, take-append_seam old.nodes) (rw (take-append_seam old.records))

  -- the visits of what the threads hold are the first of a walk from these roots
  pub walk_begun : IsRooted cells roots × (IsWalk s roots roots (length roots) held
      × ((length old.nodes ≡ length (nodes_met held.nodes_below roots))
      × (length old.records ≡ length (records_met held.nodes_below held.records_below roots))))
  walk_begun = grind (arith, held_walked, rooted, root_nodes, root_records)
