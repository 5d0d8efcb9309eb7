-- What comes in front: canonical parts are met in the order of their numbers, and where parts are, the front is their
-- own.
use Rattle.std.proofs.Common.{◌≡◌, ℕ, suc, ◌+◌, ◌<◌, ◌≤◌, List, [], ◌∷◌, ◌++◌, map, length, refl, take, sym}
use Rattle.std.proofs.Common.{◌∙◌, ap, append-nil, arith, zero, zero-add}
use Rattle.std.specs.Prelude.{slice_get, Option, Some, None, nat_eq}
use Rattle.std.specs.List.{AllZip, IsDistinct}
use Rattle.std.specs.Option.{option_and_then}
use Rattle.std.proofs.Math.Seq.{take-length, drop-length}
use Rattle.std.proofs.lemmas.List.{length-map, length-take, length-take-le, take_all, take_at, take_min, take-map}
use Rattle.std.proofs.lemmas.List.Elements.{All-from_recursion, All-weaker, recursion_from_All}
use Rattle.std.proofs.lemmas.List.Folds.{map_fixed}
use Rattle.std.proofs.lemmas.Map.Steps.{length-le_from_distinct_below}
use Rattle.tree_machine.specs.Cells.{place_in}
use Rattle.tree_machine.specs.Pairing.{IsAmong}
use Rattle.tree_machine.specs.Graphs.{numbers_from}
use Rattle.tree_machine.specs.Parts.{Part, Parts, part_at, ArePartsInRange}
use Rattle.tree_machine.specs.Flat.{all_front, behind_code, front_code, graph_code, part_codes, parts_code}
use Rattle.tree_machine.specs.Canonical.{renamed_part, front_nodes, front_records, met_nodes, met_records}
use Rattle.tree_machine.specs.Canonical.{canonical_code, canonical_parts, canonical_front, cut_front, IsMetInOrder}
use Rattle.tree_machine.specs.Laws.CellOrder.{HasAll, Extends, all_has, get_extends}
use Rattle.tree_machine.specs.Laws.CellPlaces.{place_at, has_at}
use Rattle.tree_machine.specs.Laws.Codes.{parts_code_tells}
use Rattle.tree_machine.specs.Laws.Graphs.{length-numbers_from}
use Rattle.tree_machine.specs.Laws.CellLists.{numbers_all}
use Rattle.tree_machine.specs.Laws.MetLists.{own_number, places, places_among}
use Rattle.tree_machine.specs.Laws.PartsBy.{IsPartMet, AreMet}
use Rattle.tree_machine.specs.Laws.Canonical.{front_met, walk_met, walk_held, nodes_extended, records_extended}
use Rattle.tree_machine.specs.Laws.Canonical.{places_paired, canonical_in_range}
use Rattle.tree_machine.specs.Laws.CanonicalPairs.{fronts_paired}
use Rattle.tree_machine.specs.declared.front.Front.{Front}

-- ---- numbers in their own order

-- numbers that are the places of the elements from a on come in a row
places_in_row : (ys : List ℕ) → IsDistinct nat_eq ys → (a : ℕ) (xs places_of : List ℕ)
    → ((i j x : ℕ) → j ≡ a + i → slice_get xs i ≡ Some x → slice_get ys j ≡ Some x)
    → AllZip (IsAmong (places ys)) xs places_of → places_of ≡ numbers_from a (length xs)
places_in_row ys d a [] [] h z = refl
places_in_row ys d a (x ∷ xs) (k ∷ ks) h z =
    let here = place_at ys d k x (places_among ys x k z.0) in
    let there = place_at ys d a x (h 0 a x (omega arith) refl) in
    cc (here, there, places_in_row ys d (suc a) xs ks (λ i j v e. h (suc i) j v (omega arith)) z.1)
places_in_row ys d a _ _ h z = absurd z

-- where the numbers below f come first, names below f have themselves as places
own_names : (f : ℕ) (xs : List ℕ) → IsDistinct nat_eq xs → Extends (numbers_from 0 f) xs → (refs : List (Option ℕ))
    → HasAll (numbers_from 0 f) refs → map (option_and_then (place_in xs)) refs ≡ refs
own_names f xs d e [] h = refl
own_names f xs d e (None ∷ refs) h = cc (own_names f xs d e refs h)
own_names f xs d e (Some x ∷ refs) h =
    let below = all_has (λ x. x < f) _ (recursion_from_All _ _ (numbers_all (λ x. x < f) 0 f (omega arith))) x h.0 in
    cc (place_at xs d x x (get_extends e x x (own_number x below)), own_names f xs d e refs h.1)

taken_first : (f : ℕ) (xs : List ℕ) → Extends (numbers_from 0 f) xs → take f xs ≡ numbers_from 0 f
taken_first f xs e = rw (e.is, take_at (numbers_from 0 f) e.rest f (length-numbers_from 0 f))

-- a map that leaves parts as they are, by their numbers from a on
parts_in_row : (g : ℕ → Part) (a n : ℕ) (parts : List Part) → n ≤ length parts
    → ((i j : ℕ) → i < n → j ≡ a + i → g j ≡ part_at parts i) → map g (numbers_from a n) ≡ take n parts
parts_in_row g a zero [] l h = refl
parts_in_row g a zero (p ∷ ps) l h = refl
parts_in_row g a (suc n) [] l h = absurd (omega arith)
parts_in_row g a (suc n) (p ∷ ps) l h =
    let rest = parts_in_row g (suc a) n ps (omega arith) (λ i j k same. h (suc i) j (omega arith) (omega arith)) in
    cc (h 0 a (omega arith) (omega arith), rest)

-- nodes and records that are met are no more than there are
met_within : (fixed : ℕ) (s : Parts) {nodes records : List ℕ} → AreMet fixed s nodes records
    → (length nodes ≤ length s.nodes) × (length records ≤ length s.records)
met_within fixed s {nodes} {records} met = grind (arith, length-le_from_distinct_below, all_has)

-- ---- the front of canonical parts

-- canonical parts are met in the order of their numbers
canonical_in_order : (fixed : ℕ) (s : Parts) → ArePartsInRange fixed s
    → IsMetInOrder fixed (canonical_front fixed s) (canonical_parts fixed s)
canonical_in_order fixed s h =
    let front = front_met fixed s h in
    let met = walk_met fixed s h in
    let z = fronts_paired _ _ fixed s _ h (canonical_in_range fixed s h) (places_paired fixed s h) in
    record {
      nodes =
          places_in_row (met_nodes fixed s) met.nodes_distinct 0 (front_nodes fixed s) _
          (λ i j x e. rw (e, zero-add) (get_extends (nodes_extended fixed s h _ _ front) i x)) z.0;
      records =
          places_in_row (met_records fixed s) met.records_distinct 0 (front_records fixed s) _
          (λ i j x e. rw (e, zero-add) (get_extends (records_extended fixed s h _ _ front) i x)) z.1;
    }

-- ---- parts that are met in the order of their numbers

module _ (fixed : ℕ) (front : Front) (t : Parts) (h : ArePartsInRange fixed t) (m : IsMetInOrder fixed front t) where
  first_met : AreMet fixed t (numbers_from 0 front.nodes) (numbers_from 0 front.records)
  first_met = rw (← m.nodes, ← m.records) (front_met fixed t h)

  nodes_first : Extends (numbers_from 0 front.nodes) (met_nodes fixed t)
  nodes_first = rw (← m.nodes) (nodes_extended fixed t h _ _ (front_met fixed t h))

  records_first : Extends (numbers_from 0 front.records) (met_records fixed t)
  records_first = rw (← m.records) (records_extended fixed t h _ _ (front_met fixed t h))

  -- the front counts what is met
  pub front_is : canonical_front fixed t ≡ front
  front_is = grind (arith, m.nodes, m.records, length-numbers_from 0 front.nodes, length-numbers_from 0 front.records)

  -- there are at least as many parts as the front counts
  front_within : (front.nodes ≤ length t.nodes) × (front.records ≤ length t.records)
  front_within = rw (length-numbers_from, length-numbers_from) at (met_within fixed t first_met)

  -- a part that names only what comes first is unchanged by the renaming
  own_part : (p : Part) → IsPartMet (numbers_from 0 front.nodes) (numbers_from 0 front.records) p
      → renamed_part (met_nodes fixed t) (met_records fixed t) p ≡ p
  own_part p b =
      let met = walk_met fixed t h in
      let nodes = own_names front.nodes (met_nodes fixed t) met.nodes_distinct nodes_first p.nodes b.0 in
      let records = own_names front.records (met_records fixed t) met.records_distinct records_first p.records b.1 in
      grind arith

  -- and so are the nodes and the records that come first
  own_nodes : map (λ x. renamed_part (met_nodes fixed t) (met_records fixed t) (part_at t.nodes x))
      (numbers_from 0 front.nodes) ≡ take front.nodes t.nodes
  own_nodes =
      parts_in_row _ 0 front.nodes t.nodes front_within.0
      (λ i j l same. rw (same, zero-add) (own_part _ (first_met.nodes_closed i (has_at _ i i (own_number i l)))))

  own_records : map (λ y. renamed_part (met_nodes fixed t) (met_records fixed t) (part_at t.records y))
      (numbers_from 0 front.records) ≡ take front.records t.records
  own_records =
      parts_in_row _ 0 front.records t.records front_within.1
      (λ i j l same. rw (same, zero-add) (own_part _ (first_met.records_closed i (has_at _ i i (own_number i l)))))

  front_own : front_code (canonical_front fixed t) (canonical_parts fixed t) ≡ front_code front t
  front_own =
      let nodes : take front.nodes (canonical_parts fixed t).nodes ≡ take front.nodes t.nodes =
      take-map _ front.nodes _ ∙ ap (map _) (taken_first front.nodes _ nodes_first) ∙ own_nodes in
      let records : take front.records (canonical_parts fixed t).records ≡ take front.records t.records =
      take-map _ front.records _ ∙ ap (map _) (taken_first front.records _ records_first) ∙ own_records in
      cc front_is

  -- where all come in front, the parts are canonical
  module _ (all_nodes : front.nodes ≡ length t.nodes) (all_records : front.records ≡ length t.records) where
    nodes_are : met_nodes fixed t ≡ numbers_from 0 front.nodes
    nodes_are =
        let short = met_within fixed t (walk_met fixed t h) in
        sym (take_all front.nodes _ (omega arith)) ∙ taken_first front.nodes _ nodes_first

    records_are : met_records fixed t ≡ numbers_from 0 front.records
    records_are =
        let short = met_within fixed t (walk_met fixed t h) in
        sym (take_all front.records _ (omega arith)) ∙ taken_first front.records _ records_first

    canonical_own : canonical_parts fixed t ≡ t
    canonical_own =
        let IsMet = IsPartMet (numbers_from 0 front.nodes) (numbers_from 0 front.records) in
        let nodes = ap (map _) nodes_are ∙ own_nodes ∙ take_all front.nodes t.nodes (omega arith) in
        let records = ap (map _) records_are ∙ own_records ∙ take_all front.records t.records (omega arith) in
        let held =
        map_fixed _ t.held
        (All-weaker IsMet (λ p. renamed_part (met_nodes fixed t) (met_records fixed t) p ≡ p) own_part t.held
        (All-from_recursion IsMet t.held (rw (← nodes_are, ← records_are) (walk_held fixed t h)))) in
        λ i. record { nodes = nodes i; records = records i; held = held i }

-- ---- parts that were read from a code, cut at a front

take_cut : (f : ℕ) (ps : List Part) → take (length (take f ps)) ps ≡ take f ps
take_cut f ps = rw (length-take, take_min)

-- by own numbers all that was read comes in front
pub own_parts_code : (s : Parts) → parts_code (all_front s) s ≡ graph_code s.nodes s.records ++ part_codes s.held
own_parts_code s = simp (take-length, drop-length, append-nil)

pub own_completes : (front : Front) (s other : Parts) (twins : List Part) → length other.held ≡ length twins
    → parts_code front (record { nodes = s.nodes; records = s.records; held = twins })
    ≡ parts_code (all_front other) other
    → front_code front s ++ part_codes s.held ≡ parts_code (all_front s) s
own_completes front s other twins many e =
    let stated = parts_code_tells front (all_front other) _ other (sym many) e in
    grind (arith, take-length other.nodes, take-length other.records, own_parts_code s)

-- canonical parts that were read are met in the order of their numbers
pub read_in_order : (fixed : ℕ) (front : Front) (s other : Parts) (twins : List Part) → ArePartsInRange fixed other
    → length other.held ≡ length twins
    → parts_code front (record { nodes = s.nodes; records = s.records; held = twins }) ≡ canonical_code fixed other
    → IsMetInOrder fixed (cut_front front s) s
read_in_order fixed front s other twins range many e =
    let canonical = canonical_parts fixed other in
    let cf = canonical_front fixed other in
    let long : length twins ≡ length canonical.held = simp length-map (sym many) in
    let stated = parts_code_tells front cf _ canonical long e in
    let met = canonical_in_order fixed other range in
    let within = front_within fixed cf canonical (canonical_in_range fixed other range) met in
    let nodes = ap length stated.1 ∙ length-take-le cf.nodes canonical.nodes within.0 in
    let records = ap length stated.2 ∙ length-take-le cf.records canonical.records within.1 in
    grind arith

-- behind the front that stays, the rest of the canonical parts completes their code
pub canonical_completes : (fixed : ℕ) (front : Front) (s : Parts) → ArePartsInRange fixed s
    → IsMetInOrder fixed (cut_front front s) s
    → front_code front s ++ behind_code (cut_front front s) (canonical_parts fixed s) ≡ canonical_code fixed s
canonical_completes fixed front s range met =
    let own =
    front_own fixed (cut_front front s) s range met
    ∙ (λ i. graph_code (take_cut front.nodes s.nodes i) (take_cut front.records s.records i)) in
    cc (own, front_is fixed (cut_front front s) s range met)

-- where all come in front, only what the threads hold comes behind
pub behind_all : (fixed : ℕ) (front : Front) (s : Parts) → ArePartsInRange fixed s
    → IsMetInOrder fixed (cut_front front s) s → length (take front.nodes s.nodes) ≡ length s.nodes
    → length (take front.records s.records) ≡ length s.records
    → part_codes s.held ≡ behind_code (cut_front front s) (canonical_parts fixed s)
behind_all fixed front s range met all_nodes all_records =
    let own = canonical_own fixed (cut_front front s) s range met all_nodes all_records in
    let left : part_codes s.held ≡ behind_code (cut_front front s) s =
    simp (all_nodes, all_records, drop-length, append-nil) in
    cc
