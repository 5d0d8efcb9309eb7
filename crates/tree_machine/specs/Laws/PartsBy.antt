-- Parts that are renamed by nodes and records: paired with those they come from, in range, and the same where these
-- are paired.
use Rattle.std.proofs.Common.{◌≡◌, ℕ, ◌<◌, ◌≤◌, List, [], ◌∷◌, map, length, ap, get_or, arith}
use Rattle.std.specs.Prelude.{slice_get, Option, Some, None, nat_eq, IfSome}
use Rattle.std.specs.List.{AllZip, All, AllByRecursion, IsDistinct, zip}
use Rattle.std.specs.Option.{option_and_then}
use Rattle.std.proofs.lemmas.List.{length-map}
use Rattle.std.proofs.lemmas.List.Elements.{All-map}
use Rattle.std.proofs.lemmas.Option.{slice_get-map, slice_get_within}
use Rattle.tree_machine.specs.Cells.{place_in}
use Rattle.tree_machine.specs.Pairing.{IsAmong}
use Rattle.tree_machine.specs.Graphs.{numbers_from}
use Rattle.tree_machine.specs.Parts.{Part, Parts, part_at, ArePartsPaired, IsPartsPairing, IsPartBelow, ArePartsInRange}
use Rattle.tree_machine.specs.Canonical.{renamed_part, parts_by}
use Rattle.tree_machine.specs.Laws.Cells.{map_paired, unmap, refs_from_renamed}
use Rattle.tree_machine.specs.Laws.CellOrder.{Has, HasAll, Extends, all_has, get_extends}
use Rattle.tree_machine.specs.Laws.CellPlaces.{refs_renamed, get_place, has_at, among_at, at_among, rel_among, zip_one}
use Rattle.tree_machine.specs.Laws.MetLists.{own_number, places, among_places, places_among, places_one, refs_placed}

-- the nodes and the records that a part names are among these
abbrev pub IsPartMet : List ℕ → List ℕ → Part → Type 0
IsPartMet nodes records p = HasAll nodes p.nodes × HasAll records p.records

-- these nodes and records are distinct and begin with the fixed nodes, and what they name is among them
pub record AreMet (fixed : ℕ) (s : Parts) (nodes records : List ℕ) : Type 0 where
  pub nodes_distinct : IsDistinct nat_eq nodes
  pub records_distinct : IsDistinct nat_eq records
  pub nodes_below : AllByRecursion (λ x. x < length s.nodes) nodes
  pub records_below : AllByRecursion (λ y. y < length s.records) records
  pub fixed_first : Extends (numbers_from 0 fixed) nodes
  pub nodes_closed : (x : ℕ) → Has nodes x → IsPartMet nodes records (part_at s.nodes x)
  pub records_closed : (y : ℕ) → Has records y → IsPartMet nodes records (part_at s.records y)

-- the part of a map at a place
pub part_map_at : {A : Type 0} (f : A → Part) (xs : List A) (k : ℕ) (x : A) → slice_get xs k ≡ Some x
    → part_at (map f xs) k ≡ f x
part_map_at f xs k x h = rw (slice_get-map, h)

place_below : (xs : List ℕ) (r : Option ℕ) → IfSome (option_and_then (place_in xs) r) (λ y. y < length xs)
place_below xs None = tt
place_below xs (Some x) =
    let within : (k : ℕ) → place_in xs x ≡ Some k → k < length xs =
    λ k e. slice_get_within xs k x (get_place xs x k e) in
    grind (arith, within)

placed_below : (xs : List ℕ) (refs : List (Option ℕ))
    → All (λ r. IfSome r (λ y. y < length xs)) (map (option_and_then (place_in xs)) refs)
placed_below xs refs =
    All-map (λ r. IfSome r (λ y. y < length xs)) _ refs (λ k d l. place_below xs (get_or refs k d))

pair_range : (n m : ℕ) (xs ys : List ℕ) → AllByRecursion (λ x. x < n) xs → AllByRecursion (λ y. y < m) ys → (x y : ℕ)
    → IsAmong (zip xs ys) x y → (x < n) × (y < m)
pair_range n m xs ys below above x y p =
    let at = at_among xs ys x y p in
    (all_has (λ x. x < n) xs below x (has_at xs at.0 x at.1), all_has (λ y. y < m) ys above y (has_at ys at.0 y at.2))

place_range : (n : ℕ) (f : ℕ → Part) (xs : List ℕ) → AllByRecursion (λ x. x < n) xs → (x y : ℕ)
    → IsAmong (places xs) x y → (x < n) × (y < length (map f xs))
place_range n f xs below x y p =
    let at = places_among xs x y p in
    (all_has (λ x. x < n) xs below x (has_at xs y x at), rw length-map (slice_get_within xs y x at))

module _ (nodes records : List ℕ) where
  part_paired : (p : Part) → IsPartMet nodes records p
      → ArePartsPaired (IsAmong (places nodes)) (IsAmong (places records)) p (renamed_part nodes records p)
  part_paired p h = grind (arith, refs_placed)

  held_paired : (ps : List Part) → AllByRecursion (IsPartMet nodes records) ps
      → AllZip (ArePartsPaired (IsAmong (places nodes)) (IsAmong (places records))) ps
      (map (renamed_part nodes records) ps)
  held_paired [] h = tt
  held_paired (p ∷ ps) h = (part_paired p h.0, held_paired ps h.1)

  -- each with its place is a pairing
  pub by_paired : (fixed : ℕ) (s : Parts) → AreMet fixed s nodes records
      → AllByRecursion (IsPartMet nodes records) s.held
      → IsPartsPairing (IsAmong (places nodes)) (IsAmong (places records)) fixed s (parts_by nodes records s)
  by_paired fixed s h closed =
      record {
        nodes_one_to_one = places_one nodes h.nodes_distinct;
        records_one_to_one = places_one records h.records_distinct;
        fixed_paired = λ x l. among_places nodes x x (get_extends h.fixed_first x x (own_number x l));
        nodes_in_range = place_range (length s.nodes) _ nodes h.nodes_below;
        records_in_range = place_range (length s.records) _ records h.records_below;
        nodes_paired = λ x y p.
            let at = places_among nodes x y p in
            rw (part_map_at _ nodes y x at) (part_paired _ (h.nodes_closed x (has_at nodes y x at)));
        records_paired = λ x y p.
            let at = places_among records x y p in
            rw (part_map_at _ records y x at) (part_paired _ (h.records_closed x (has_at records y x at)));
        held_paired = held_paired s.held closed;
      }

  -- what is renamed is in range
  parts_below : {A : Type 0} {n r : ℕ} → n ≡ length nodes → r ≡ length records → (g : A → Part) (xs : List A)
      → All (IsPartBelow n r) (map (λ x. renamed_part nodes records (g x)) xs)
  parts_below {n = n} {r = r} e f g xs =
      All-map (IsPartBelow n r) _ xs (λ k d l.
      let p = g (get_or xs k d) in
      rw (e, f) (record { nodes = placed_below nodes p.nodes; records = placed_below records p.records }))

  pub by_in_range : (fixed : ℕ) (s : Parts) → fixed ≤ length nodes → ArePartsInRange fixed (parts_by nodes records s)
  by_in_range fixed s l =
      let n = length-map nodes (λ x. renamed_part nodes records (part_at s.nodes x)) in
      let r = length-map records (λ y. renamed_part nodes records (part_at s.records y)) in
      record {
        fixed_in_range = rw n l;
        nodes = parts_below n r (part_at s.nodes) nodes;
        records = parts_below n r (part_at s.records) records;
        held = parts_below n r (λ p. p) s.held;
      }

-- nodes and records that are paired place by place leave the same
pub by_same : (P R : ℕ → ℕ → Type 0) (fixed : ℕ) (s t : Parts) (nodes records others targets : List ℕ)
    → IsPartsPairing P R fixed s t → AllZip P nodes others → AllZip R records targets
    → parts_by nodes records s ≡ parts_by others targets t
by_same P R fixed s t nodes records others targets h z w =
    let same : (a b : Part) → ArePartsPaired P R a b → renamed_part nodes records a ≡ renamed_part others targets b =
    λ a b p.
    let first = refs_renamed P h.nodes_one_to_one nodes others z a.nodes b.nodes p.nodes in
    let then = refs_renamed R h.records_one_to_one records targets w a.records b.records p.records in
    grind arith in
    let first = map_paired P _ _ (λ x y p. same _ _ (h.nodes_paired x y p)) nodes others z in
    let then = map_paired R _ _ (λ x y p. same _ _ (h.records_paired x y p)) records targets w in
    let last = map_paired (ArePartsPaired P R) _ _ same s.held t.held h.held_paired in
    cc

-- and the same is left of nodes and records that are paired place by place
module _ (fixed : ℕ) (s t : Parts) (nodes records others targets : List ℕ) (here : AreMet fixed s nodes records)
    (there : AreMet fixed t others targets) where
  abbrev P : ℕ → ℕ → Type 0
  P = IsAmong (zip nodes others)

  abbrev R : ℕ → ℕ → Type 0
  R = IsAmong (zip records targets)

  part_from_same : (a b : Part) → IsPartMet nodes records a → IsPartMet others targets b
      → renamed_part nodes records a ≡ renamed_part others targets b → ArePartsPaired P R a b
  part_from_same a b h g e = grind (arith, refs_from_renamed)

  held_from_same : (ps qs : List Part) → AllByRecursion (IsPartMet nodes records) ps
      → AllByRecursion (IsPartMet others targets) qs
      → map (renamed_part nodes records) ps ≡ map (renamed_part others targets) qs → AllZip (ArePartsPaired P R) ps qs
  held_from_same [] [] h g e = tt
  held_from_same (p ∷ ps) (q ∷ qs) h g e = grind (arith, part_from_same p q h.0 g.0, held_from_same ps qs h.1 g.1)
  held_from_same _ _ h g e = cc

  pub paired_from_same : AllByRecursion (IsPartMet nodes records) s.held
      → AllByRecursion (IsPartMet others targets) t.held
      → parts_by nodes records s ≡ parts_by others targets t
      → IsPartsPairing (IsAmong (zip nodes others)) (IsAmong (zip records targets)) fixed s t
  paired_from_same h g e =
      let same_nodes = unmap _ _ nodes others (ap (λ p. p.nodes) e) in
      let same_records = unmap _ _ records targets (ap (λ p. p.records) e) in
      record {
        nodes_one_to_one = zip_one nodes others here.nodes_distinct there.nodes_distinct;
        records_one_to_one = zip_one records targets here.records_distinct there.records_distinct;
        fixed_paired = λ x l.
            among_at nodes others x x x (get_extends here.fixed_first x x (own_number x l))
            (get_extends there.fixed_first x x (own_number x l));
        nodes_in_range = pair_range _ _ nodes others here.nodes_below there.nodes_below;
        records_in_range = pair_range _ _ records targets here.records_below there.records_below;
        nodes_paired = λ x y p.
            let same = rel_among _ nodes others same_nodes x y p in
            grind (arith, at_among nodes others x y p, part_from_same, has_at);
        records_paired = λ x y p.
            let same = rel_among _ records targets same_records x y p in
            grind (arith, at_among records targets x y p, part_from_same, has_at);
        held_paired = held_from_same s.held t.held h g (ap (λ p. p.held) e);
      }
