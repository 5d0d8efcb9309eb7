-- Walks that write what they visit: a graph in bytes behind counts that were put first, and the front of canonical
-- parts.
use Rattle.std.proofs.Common.{◌≡◌, ℕ, zero, suc, ◌+◌, ◌-◌, ◌<◌, ◌≤◌, List, [], ◌∷◌, ◌++◌, length, take, refl, sym, ◌∙◌}
use Rattle.std.proofs.Common.{ap, subst, inl, inr, arith, append_assoc, append-nil, length-append, add-zero, add-suc}
use Rattle.std.proofs.Common.{map, drop, ◌||◌, add_comm, slice_get, Some, None, nat_eq, take_all}
use Rattle.std.specs.List.{All}
use Rattle.std.proofs.lemmas.List.{map-append, take-append-le, take_more, length-map}
use Rattle.std.proofs.lemmas.Grind.{flat_map-append}
use Rattle.std.proofs.lemmas.List.Elements.{filter-append, All-append, recursion_from_All, All-nil}
use Rattle.std.proofs.lemmas.Option.{slice_get_past, slice_get_within, get_or_from_slice_get}
use Rattle.std.proofs.Math.Seq.{drop-append-add, take-append_seam}
use Rattle.std.proofs.Math.Bool.{or-true}
use Rattle.std.proofs.lemmas.Bool.{cases_lt}
use Rattle.tree_machine.specs.Canonical.{nodes_met, records_met, renamed_part, canonical_parts, canonical_front}
use Rattle.tree_machine.specs.Canonical.{front_nodes, front_order, front_records}
use Rattle.tree_machine.specs.Cells.{Content, content_at, met_all, met_in, order_of, IsRooted}
use Rattle.tree_machine.specs.Coding.{Coding, IsVisited, IsWalk, coded_by, nodes_by, records_by, with_part}
use Rattle.tree_machine.specs.Flat.{cell_code, part_codes, part_content, graph_code, front_code}
use Rattle.tree_machine.specs.Parts.{Part, Parts, ArePartsInRange, IsPartBelow, part_at, part_cell, parts_graph}
use Rattle.tree_machine.specs.Parts.{parts_held}
use Rattle.tree_machine.specs.Graphs.{numbers_from}
use Rattle.tree_machine.specs.Laws.CellOrder.{Extends, extends_itself, extends_more, visited_extends, all_has}
use Rattle.tree_machine.specs.Laws.CellOrder.{length-order, met_all_extends, met_all_has, met_in_order, met_in_stable}
use Rattle.tree_machine.specs.Laws.CellOrder.{Has}
use Rattle.tree_machine.specs.Laws.CellPlaces.{has_at}
use Rattle.tree_machine.specs.Laws.PartCells.{node_at, record_at}
use Rattle.tree_machine.specs.Laws.MetLists.{test_node, test_other, test_record, test_before}
use Rattle.tree_machine.specs.Laws.SmallCodes.{small_code}
use Rattle.tree_machine.specs.Laws.Canonical.{front_met, front_same, nodes_extended, records_extended}
use Rattle.tree_machine.specs.Laws.CellLists.{numbers_all}
use Rattle.tree_machine.specs.Laws.PartsBy.{IsPartMet}
use Rattle.tree_machine.proofs.Codings.{renamed_kept, codes_append}
use Rattle.tree_machine.proofs.Lists.{get-append_right}
use Rattle.tree_machine.proofs.NamesMet.{new_cells, part_met, nodes_append, records_append, nodes_of, records_of}
use Rattle.tree_machine.proofs.VisitedParts.{part_within}
use Rattle.tree_machine.proofs.Walks.{met_in_done, met_in_next}

-- ---- the order that a walk comes to

module _ (cells : List Content) (roots : List ℕ) where
  -- later visits only append
  met_in_later : (v k : ℕ) → Extends (met_in cells roots v) (met_in cells roots (v + k))
  met_in_later v zero = rw add-zero (extends_itself _)
  met_in_later v (suc k) = rw add-suc (extends_more (met_in_later v k) (visited_extends cells _ _))

  module _ (rooted : IsRooted cells roots) where
    -- a visit more for each cell meets all
    met_at_last : (v : ℕ) → met_in cells roots (v + length cells) ≡ order_of cells roots
    met_at_last v = ap (met_in cells roots) (add_comm v (length cells)) ∙ met_in_stable cells roots rooted v

    -- what is met at any time comes first in the order
    pub met_in_within : (v : ℕ) → Extends (met_in cells roots v) (order_of cells roots)
    met_in_within v = subst (Extends (met_in cells roots v)) (met_at_last v) (met_in_later v (length cells))

    -- where nothing is left to visit, all is met
    pub met_in_ended : (v : ℕ) → slice_get (met_in cells roots v) v ≡ None → met_in cells roots v ≡ order_of cells roots
    met_in_ended v e = sym (met_in_done cells roots v (length cells) e) ∙ met_at_last v

-- ---- one visit more

-- a walk that visits the part at the place of its visits
pub walk_next : (s : Parts) (roots before : List ℕ) (v : ℕ) (c : Coding) (x : ℕ) (p : Part)
    → IsWalk s roots before v c → slice_get (before ++ c.queue) v ≡ Some x
    → content_at (parts_graph s ++ parts_held s) x ≡ part_cell (length s.nodes) p
    → IsPartBelow (length s.nodes) (length s.records) p
    → IsWalk s roots before (v + 1) (with_part c p)
walk_next s roots before v c x p w at is below =
    let n = length s.nodes in
    let r = length s.records in
    let m = before ++ c.queue in
    let met = part_met n r p m below in
    let more = new_cells n r p m in
    let joined : (with_part c p).queue ≡ c.queue ++ more =
    rw (w.nodes, w.records, w.nodes_below) (append_assoc c.queue _ _) in
    let all : before ++ (with_part c p).queue ≡ m ++ more =
    ap (λ q. before ++ q) joined ∙ sym (append_assoc before c.queue more) in
    record {
      met =
          met_in_next _ _ v w.met at (all ∙ sym met.cells ∙ ap (λ (d : Content). met_all m d.refs) (sym is));
      nodes = ap (λ l. met_all l p.nodes) w.nodes ∙ met.nodes ∙ ap (nodes_met n) (sym all);
      records = ap (λ l. met_all l p.records) w.records ∙ met.records ∙ ap (records_met n r) (sym all);
      nodes_below = w.nodes_below;
      records_below = w.records_below;
      graph =
          subst (All (λ x. x < n + r)) (sym joined) (All-append (λ x. x < n + r) c.queue more w.graph met.below);
    }

-- ---- what is written

-- what is written of some cells: the nodes behind front, and the records apart, by these numbers
abbrev AreWritten : (s : Parts) (front apart cells bytes out : List ℕ) → Coding → Type 0
AreWritten s front apart cells bytes out end =
    (bytes ≡ front ++ part_codes (nodes_by end s cells)) × (out ≡ apart ++ part_codes (records_by end s cells))

-- a walk that visited so many cells of its queue, and wrote them by numbers that stay
pub record IsTrail (s : Parts) (roots before : List ℕ) (k : ℕ) (front apart : List ℕ) (c : Coding)
    (bytes out : List ℕ) : Type 0 where
  pub walk : IsWalk s roots before (length before + k) c
  pub written : (end : Coding) → Extends c.nodes end.nodes → Extends c.records end.records
      → AreWritten s front apart (take k c.queue) bytes out end

-- before the first visit nothing is written
pub trail_begun : {s : Parts} {roots before : List ℕ} {c : Coding} {bytes out : List ℕ}
    → IsWalk s roots before (length before) c → IsTrail s roots before 0 bytes out c bytes out
trail_begun {bytes = bytes} {out = out} w = grind (arith, add-zero, append-nil)

-- the visited cells of a queue, once the next one is visited
visited_next : (c : Coding) (p : Part) (k x : ℕ) → slice_get c.queue k ≡ Some x
    → take (k + 1) (with_part c p).queue ≡ take k c.queue ++ x ∷ []
visited_next c p k x at =
    let within : k < length c.queue = slice_get_within c.queue k x at in
    rw append_assoc
    (take-append-le (k + 1) c.queue _ (omega arith) ∙ take_more c.queue k 0 within
    ∙ ap (λ y. take k c.queue ++ y ∷ []) (get_or_from_slice_get c.queue k x 0 at))

-- each cell of a queue that is visited is written
module _ {s : Parts} {roots before : List ℕ} {k : ℕ} {front apart : List ℕ} {c : Coding} {bytes out : List ℕ}
    (t : IsTrail s roots before k front apart c bytes out) where
  module _ {fixed : ℕ} (h : ArePartsInRange fixed s) {x : ℕ} (at : slice_get c.queue k ≡ Some x) where
    -- once a part at the next place is visited, and is written in one of the places
    then_trail : (p : Part) (put then : List ℕ)
        → content_at (parts_graph s ++ parts_held s) x ≡ part_cell (length s.nodes) p
        → IsPartBelow (length s.nodes) (length s.records) p
        → ((end : Coding) → coded_by (with_part c p) p ≡ part_codes (renamed_part end.nodes end.records p ∷ [])
        → AreWritten s bytes out (x ∷ []) put then end)
        → IsTrail s roots before (k + 1) front apart (with_part c p) put then
    then_trail p put then is below written =
        let v : length before + k + 1 ≡ length before + (k + 1) = omega arith in
        record {
          walk =
              rw (← v) (walk_next s roots before (length before + k) c x p t.walk
              (get-append_right before c.queue k x at) is below);
          written = λ end e f.
              let kept = renamed_kept p e f (met_all_has p.nodes c.nodes) (met_all_has p.records c.records) in
              let old = t.written end (extends_more (met_all_extends p.nodes c.nodes) e)
              (extends_more (met_all_extends p.records c.records) f) in
              let new = written end (ap (λ q. cell_code (part_content q)) (sym kept) ∙ sym (append-nil _)) in
              rw (visited_next c p k x at) (
                rw (new.0, old.0) (simp (filter-append, map-append, flat_map-append, append_assoc)),
                rw (new.1, old.1) (simp (filter-append, map-append, flat_map-append, append_assoc)),
              );
        }

    -- a node is written behind the others, and a record apart
    pub trail_next : (d : Coding) (put then : List ℕ)
        → (x < c.nodes_below → IsVisited (part_at s.nodes x) c bytes d put × (then ≡ out))
        → (c.nodes_below ≤ x → IsVisited (part_at s.records (x - c.nodes_below)) c out d then × (put ≡ bytes))
        → IsTrail s roots before (k + 1) front apart d put then
    trail_next d put then node rest =
        let n = length s.nodes in
        elim (cases_lt x c.nodes_below) [
          | inl l ↦
              let p = part_at s.nodes x in
              let within : x < n = omega (arith, t.walk.nodes_below) in
              let e = node l in
              rw (e.0.1, e.1, e.0.0)
              (then_trail p (bytes ++ coded_by (with_part c p) p) out (node_at s x within)
              (part_within s.nodes x (omega arith) (omega arith) h.nodes)
              (λ end code. rw (test_node n x within, test_before n (length s.records) x within)
              (ap (λ l. bytes ++ l) code, sym (append-nil out))))
          | inr l ↦
              let p = part_at s.records (x - n) in
              let e = subst (λ b. IsVisited (part_at s.records (x - b)) c out d then × (put ≡ bytes))
              t.walk.nodes_below (rest l) in
              let behind : n ≤ x = omega (arith, t.walk.nodes_below) in
              let below : x < n + length s.records =
              all_has (λ x. x < n + length s.records) c.queue (recursion_from_All _ c.queue t.walk.graph) x
              (has_at c.queue k x at) in
              let y : n + (x - n) ≡ x = omega arith in
              rw (e.0.1, e.1, e.0.0)
              (then_trail p bytes (out ++ coded_by (with_part c p) p) (rw y at (record_at s (x - n) (omega arith)))
              (part_within s.records (x - n) (omega arith) (omega arith) h.records)
              (λ end code. rw (test_other n x behind, test_record n (length s.records) x behind below)
              (sym (append-nil bytes), ap (λ l. out ++ l) code)))
        ]

  module _ (rooted : IsRooted (parts_graph s ++ parts_held s) roots) where
    -- after a visit for each cell the queue is visited
    pub trail_long : length (parts_graph s ++ parts_held s) ≤ k → length c.queue ≤ k
    trail_long l =
        let order = met_in_order (parts_graph s ++ parts_held s) roots rooted (length before + k) in
        omega (arith, length-order _ _ order, ap length t.walk.met, length-append before c.queue)

    -- where the queue is visited, all is met, and each name in it has its number
    pub trail_ended : length c.queue ≤ k → IsWalk s roots before (length (parts_graph s ++ parts_held s)) c
        × AreWritten s front apart c.queue bytes out c
    trail_ended l = grind (arith, slice_get_past, length-append, met_in_ended, take_all, extends_itself)

-- ---- the graph

-- what was met before is counted apart
counted : (keep : List ℕ → List ℕ) (f : ℕ → Part) → ((xs ys : List ℕ) → keep (xs ++ ys) ≡ keep xs ++ keep ys)
    → (before queue all : List ℕ) (count n : ℕ) → all ≡ keep (before ++ queue) → count ≡ length all
    → n ≡ length (keep before) → length (map f (keep queue)) ≡ count - n
counted keep f append before queue all count n e count_is n_is = grind (arith, length-append, length-map)

-- the counts are set once all is visited, and the records come behind the nodes
pub graph_written : {s : Parts} {roots before : List ℕ} {v : ℕ} {c : Coding} → IsWalk s roots before v c
    → (old : List ℕ) {put apart set end : List ℕ} {place nodes others n r : ℕ} → place ≡ length old
    → put ≡ (old ++ 0 ∷ 0 ∷ []) ++ part_codes (nodes_by c s c.queue) → apart ≡ part_codes (records_by c s c.queue)
    → nodes ≡ length c.nodes → nodes < 255 → others ≡ length c.records → others < 255
    → n ≡ length (nodes_met (length s.nodes) before)
    → r ≡ length (records_met (length s.nodes) (length s.records) before)
    → set ≡ take place put ++ ((nodes - n) ∷ (others - r) ∷ drop (place + 2) put) → end ≡ set ++ apart
    → end ≡ old ++ graph_code (nodes_by c s c.queue) (records_by c s c.queue)
graph_written {s} {before} {c} w old {nodes = nodes} {others = others} {n = n} {r = r} hp hc ha en few er least hn hr
    hs he =
    let ns = nodes_by c s c.queue in
    let rs = records_by c s c.queue in
    let behind = 0 ∷ 0 ∷ part_codes ns in
    let nodes_are : length ns ≡ nodes - n =
    counted (nodes_met _) _ (nodes_append _) before c.queue c.nodes nodes n w.nodes en hn in
    let records_are : length rs ≡ others - r =
    counted (records_met _ _) _ (records_append _ _) before c.queue c.records others r w.records er hr in
    rw (he, hs, ha, hp, hc ∙ append_assoc old (0 ∷ 0 ∷ []) (part_codes ns), take-append_seam old behind, append_assoc)
    (rw (drop-append-add old behind 2, small_code (length ns) (omega arith), small_code (length rs) (omega arith))
    (rw (nodes_are, records_are, codes_append ns rs) refl))

-- ---- the front of canonical parts

-- functions that agree on a list agree on it in front of a longer one
front_alike : {A : Type 0} {xs ys : List ℕ} (f g : ℕ → A) → Extends xs ys → ((x : ℕ) → Has xs x → f x ≡ g x)
    → take (length xs) (map f ys) ≡ map g xs
front_alike {A} {xs} f g e same = rw (e.is, map-append f xs e.rest, ← length-map xs f, take-append_seam) (go xs same)
  where
    go : (xs : List ℕ) → ((x : ℕ) → Has xs x → f x ≡ g x) → map f xs ≡ map g xs
    go [] h = refl
    go (x ∷ xs) h =
        let here = h x (has_at (x ∷ xs) 0 x refl) in
        let rest = go xs (λ y k. h y (ap (λ t. nat_eq y x || t) k ∙ or-true (nat_eq y x))) in
        cc

module _ (fixed : ℕ) (s : Parts) (h : ArePartsInRange fixed s) where
  -- a walk begins with the fixed nodes in the queue
  pub front_begun : IsWalk s (numbers_from 0 fixed) [] 0 (record {
    nodes_below = length s.nodes;
    records_below = length s.records;
    nodes = numbers_from 0 fixed;
    records = [];
    queue = numbers_from 0 fixed;
  })
  front_begun =
      let first = numbers_from 0 fixed in
      let l : fixed ≤ length s.nodes = h.fixed_in_range in
      let below = numbers_all (λ x. x < length s.nodes) 0 fixed (λ x g k. omega arith) in
      record {
        met = refl;
        nodes = sym (simp append-nil at (nodes_of (length s.nodes) (length s.records) first [] below));
        records = sym (simp append-nil at (records_of (length s.nodes) (length s.records) first [] below (All-nil _)));
        nodes_below = refl;
        records_below = refl;
        graph = numbers_all (λ x. x < length s.nodes + length s.records) 0 fixed (λ x g k. omega arith);
      }

  module _ {d : Coding} (w : IsWalk s (numbers_from 0 fixed) [] (length (parts_graph s ++ parts_held s)) d) where
    -- what it met is what the fixed nodes reach, and has numbers
    queue_is : d.queue ≡ front_order fixed s
    queue_is = w.met ∙ front_same fixed s h

    pub nodes_are : d.nodes ≡ front_nodes fixed s
    nodes_are = w.nodes ∙ ap (nodes_met (length s.nodes)) queue_is

    pub records_are : d.records ≡ front_records fixed s
    records_are = w.records ∙ ap (records_met (length s.nodes) (length s.records)) queue_is

    -- and it is what is written
    pub front_written : graph_code (nodes_by d s d.queue) (records_by d s d.queue)
        ≡ front_code (canonical_front fixed s) (canonical_parts fixed s)
    front_written =
        let fn = front_nodes fixed s in
        let fr = front_records fixed s in
        let met = front_met fixed s h in
        let more = nodes_extended fixed s h fn fr met in
        let others = records_extended fixed s h fn fr met in
        let kept = λ (p : Part) (c : IsPartMet fn fr p). renamed_kept p more others c.0 c.1 in
        rw (
          nodes_are,
          records_are,
          queue_is,
          front_alike _ _ more (λ x g. kept (part_at s.nodes x) (met.nodes_closed x g)),
          front_alike _ _ others (λ y g. kept (part_at s.records y) (met.records_closed y g)),
        )
