-- Parts are paired, and in range, exactly where what they are of is.
use Rattle.std.specs.Prelude.{◌≡◌, ℕ, zero, suc, ◌+◌, ◌*◌, ◌<◌, ◌↔◌, Bool, true, false, List, [], length, refl, Option}
use Rattle.std.specs.Prelude.{Some, None, map, IfSome, All}
use Rattle.std.specs.List.{AllZip}
use Rattle.std.proofs.Common.{arith, sym}
use Rattle.natmit.specs.Types.{Side, Left, Word, Node, Leaf, Internal, NatMitMem, NatMitLoc, Begin}
use Rattle.tree_machine.specs.Pairing.{IsAmong, AreHeldPaired, AreAlike}
use Rattle.tree_machine.specs.Parts.{Parts, ArePartsPaired, IsPartsPairing, CanPartsBePaired, IsPartBelow}
use Rattle.tree_machine.specs.Parts.{ArePartsInRange}
use Rattle.tree_machine.specs.Laws.PartsExactly.{paired_exactly, in_range_exactly}
use Rattle.tree_machine.proofs.ValueParts.{zip_map, zip_unmap, parts_within, values_within, parts_at, values_at}
use Rattle.tree_machine.proofs.ValueParts.{all_below, all_in}
use Rattle.natmit.specs.Pairs.{AreNodesPaired, ArePlacesPaired, AreMemoriesPaired, natmit_pairs}
use Rattle.natmit.specs.Parts.{bit, mark_number, side_number, node_part, place_part, held_part, natmit_parts}
use Rattle.natmit.specs.Laws.PairedAccesses.{AreFoundPaired}
use Rattle.std.proofs.lemmas.List.{length-map}
use Rattle.std.proofs.lemmas.List.Elements.{All-nil}
use Rattle.natmit.specs.Range.{IsNodeIn, IsPlaceIn, IsInRange, IsPlaceInRange}

-- ---- facts determine what they are of

bit_tells : (a b : Bool) → bit a ≡ bit b → a ≡ b
bit_tells false false e = refl
bit_tells a b e = search arith

bit_small : (b : Bool) → bit b < 2
bit_small false = omega arith
bit_small true = omega arith

-- the flags and the tags of two children
marks_tell : (a b c d : Word) → mark_number a + 4 * mark_number b ≡ mark_number c + 4 * mark_number d
    → (a.flag ≡ c.flag) × (a.tag ≡ c.tag) × (b.flag ≡ d.flag) × (b.tag ≡ d.tag)
marks_tell a b c d e = (
  bit_tells a.flag c.flag (omega (arith, bit_small)),
  bit_tells a.tag c.tag (omega (arith, bit_small)),
  bit_tells b.flag d.flag (omega (arith, bit_small)),
  bit_tells b.tag d.tag (omega (arith, bit_small)),
)

side_tells : (a b : Side) → side_number a ≡ side_number b → a ≡ b
side_tells Left Left e = refl
side_tells a b e = search arith

-- ---- nodes and places, and their parts

module _ (P R : ℕ → ℕ → Type 0) where
  -- nodes are paired exactly if their parts are
  pub node_parts : (a b : Node) → AreNodesPaired P a b ↔ ArePartsPaired P R (node_part a) (node_part b)
  node_parts (Leaf k) (Leaf j) = paired_exactly P R _ _ (λ h. search arith) (λ f n r. cc)
  node_parts (Internal k l r) (Internal j m s) =
      paired_exactly P R _ _ (λ h. (cc, (h.1.2, (h.2.2, tt)), tt))
      (λ f n none.
      let marks = marks_tell l r m s (cc) in
      ((let e : k ≡ j = cc in e), (marks.0, marks.1, n.0), (marks.2, marks.3, n.1.0)))
  node_parts _ _ = (λ h. absurd h, λ h. let f = h.facts in cc)

  ruleset tells = (bit_tells, side_tells, arith)

  -- places are paired exactly if their parts are
  pub place_parts : (place twin : NatMitLoc)
      → ArePlacesPaired P place twin ↔ ArePartsPaired P R (place_part place) (place_part twin)
  place_parts (Begin m) (Begin o) = paired_exactly P R _ _ (λ h. search tells) (λ f n r. search tells)
  place_parts place twin = paired_exactly P R _ _ (λ h. search tells) (λ f n r. search tells)

  -- no place has the part of a thread that holds none
  never_idle : (place : NatMitLoc) → (held_part None).facts ≡ (place_part place).facts → ⊥
  never_idle (Begin m) e = cc
  never_idle _ e = cc

  -- what two threads hold is paired exactly if the parts are
  pub held_parts : (place twin : Option NatMitLoc)
      → AreHeldPaired (ArePlacesPaired P) place twin ↔ ArePartsPaired P R (held_part place) (held_part twin)
  held_parts None None = (λ h. record { facts = refl; nodes = tt; records = tt }, λ h. tt)
  held_parts (Some place) (Some twin) = place_parts place twin
  held_parts None (Some twin) = (λ h. absurd h, λ h. absurd (never_idle twin h.facts))
  held_parts (Some place) None = (λ h. absurd h, λ h. absurd (never_idle place (sym h.facts)))

-- ---- memories, and their parts

module _ (memory other : NatMitMem) (held others : List (Option NatMitLoc)) where
  abbrev here : Parts
  here = natmit_parts memory held

  abbrev there : Parts
  there = natmit_parts other others

  first_paired : (P : ℕ → ℕ → Type 0) → P 0 0 → P 1 1 → (x : ℕ) → x < 2 → P x x
  first_paired P root begin zero below = root
  first_paired P root begin (suc zero) below = begin
  first_paired P root begin (suc (suc x)) below = absurd (omega arith)

  -- what pairs the memories and the places pairs their parts
  pub pairing_to : (P : ℕ → ℕ → Type 0) → AreMemoriesPaired P memory other
      → AllZip (AreHeldPaired (ArePlacesPaired P)) held others → IsPartsPairing P (IsAmong []) 2 here there
  pairing_to P h places = let R = IsAmong [] in
      record {
        nodes_one_to_one = h.one_to_one;
        records_one_to_one = λ x y a b none. absurd none;
        fixed_paired = first_paired P h.root_paired h.begin_paired;
        nodes_in_range = λ x y at. parts_within node_part memory.nodes other.nodes x y (h.in_range x y at);
        records_in_range = λ x y none. absurd none;
        nodes_paired =
            λ x y at. parts_at node_part memory.nodes other.nodes x y P R (AreFoundPaired P) (h.in_range x y at)
            (λ a b. (node_parts P R a b).0) (h.nodes_paired x y at);
        records_paired = λ x y none. absurd none;
        held_paired =
            zip_map held_part (AreHeldPaired (ArePlacesPaired P)) (ArePartsPaired P R) (λ a b. (held_parts P R a b).0)
            held others places;
      }

  -- and what pairs the parts pairs these
  pub pairing_from : (P R : ℕ → ℕ → Type 0) → IsPartsPairing P R 2 here there
      → AreMemoriesPaired P memory other × AllZip (AreHeldPaired (ArePlacesPaired P)) held others
  pairing_from P R h =
      let in_range : (x y : ℕ) → P x y → (x < length memory.nodes) × (y < length other.nodes) =
      λ x y at. values_within node_part memory.nodes other.nodes x y (h.nodes_in_range x y at) in (
        record {
          one_to_one = h.nodes_one_to_one;
          root_paired = h.fixed_paired 0 (omega arith);
          begin_paired = h.fixed_paired 1 (omega arith);
          in_range = in_range;
          nodes_paired =
              λ x y at. values_at node_part memory.nodes other.nodes x y P R (AreFoundPaired P) (in_range x y at)
              (λ a b. (node_parts P R a b).1) (h.nodes_paired x y at);
        },
        zip_unmap held_part (AreHeldPaired (ArePlacesPaired P)) (ArePartsPaired P R)
            (λ a b. (held_parts P R a b).1) held others h.held_paired,
      )

  -- the parts can be paired exactly if memories and places are alike
  pub parts_exactly : CanPartsBePaired 2 here there ↔ AreAlike natmit_pairs memory held other others
  parts_exactly = (
    (λ h. let t = pairing_from (IsAmong h.0) (IsAmong h.1) h.2 in (record { nodes = h.0; records = h.1 }, t.0, t.1)),
    (λ h. (h.0.nodes, [], pairing_to (IsAmong h.0.nodes) h.1 h.2)),
  )

-- ---- the numbers of a value are in range exactly if those of its part are

module _ (n r : ℕ) where
  node_exactly : (node : Node) → IsNodeIn n node ↔ IsPartBelow n r (node_part node)
  node_exactly (Leaf k) = in_range_exactly n r _ (λ h. search) (λ h k. search)
  node_exactly node = in_range_exactly n r _ (λ h. search) (λ h k. search)

  place_exactly : (place : NatMitLoc) → IsPlaceIn n place ↔ IsPartBelow n r (place_part place)
  place_exactly (Begin m) = in_range_exactly n r _ (λ h. search arith) (λ h k. search arith)
  place_exactly place = in_range_exactly n r _ (λ h. search arith) (λ h k. search arith)

  held_exactly : (place : Option NatMitLoc) → IfSome place (IsPlaceIn n) ↔ IsPartBelow n r (held_part place)
  held_exactly None = in_range_exactly n r _ (λ h. (tt, tt)) (λ h k. tt)
  held_exactly (Some place) = place_exactly place

-- ---- a memory and the places held

-- the parts of a memory and of places in range are in range
pub parts_in_range : (memory : NatMitMem) (held : List (Option NatMitLoc)) → IsInRange memory
    → All (λ place. IfSome place (IsPlaceInRange memory)) held → ArePartsInRange 2 (natmit_parts memory held)
parts_in_range memory held h places =
    let n = length memory.nodes in
    let same = length-map memory.nodes node_part in
    let first = h.first_nodes in
    record {
      fixed_in_range = omega arith;
      nodes = all_below node_part (IsNodeIn n) n 0 _ _ same refl (λ a. (node_exactly n 0 a).0) memory.nodes h.nodes;
      records = All-nil (IsPartBelow (length (map node_part memory.nodes)) 0);
      held =
          all_below held_part (λ place. IfSome place (IsPlaceIn n)) n 0 _ _ same refl (λ a. (held_exactly n 0 a).0)
          held places;
    }

-- and only those
pub values_in_range : (memory : NatMitMem) (held : List (Option NatMitLoc))
    → ArePartsInRange 2 (natmit_parts memory held) → IsInRange memory
    × All (λ place. IfSome place (IsPlaceInRange memory)) held
values_in_range memory held h =
    let n = length memory.nodes in
    let same = length-map memory.nodes node_part in
    let first = h.fixed_in_range in (
      record {
        first_nodes = omega arith;
        nodes = all_in node_part (IsNodeIn n) n 0 _ _ same refl (λ a. (node_exactly n 0 a).1) memory.nodes h.nodes;
      },
      all_in held_part (λ place. IfSome place (IsPlaceIn n)) n 0 _ _ same refl (λ a. (held_exactly n 0 a).1) held
          h.held,
    )
