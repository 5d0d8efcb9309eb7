-- Parts are paired, and in range, exactly where what they are of is.
use Rattle.std.specs.Prelude.{◌≡◌, ◌↔◌, ℕ, ◌<◌, List, length, Option, Some, None, refl, unwrap_or, map, IfSome, All}
use Rattle.std.specs.List.{AllZip}
use Rattle.std.proofs.Common.{arith, subst}
use Rattle.tree_machine.specs.Pairing.{IsAmong, AreHeldPaired, AreAlike}
use Rattle.tree_machine.specs.Cells.{IsPairedOrNone}
use Rattle.tree_machine.specs.Parts.{Part, ArePartsPaired, IsPartsPairing, CanPartsBePaired, IsPartBelow}
use Rattle.tree_machine.specs.Parts.{ArePartsInRange}
use Rattle.tree_machine.specs.Laws.PartsExactly.{paired_exactly, in_range_exactly}
use Rattle.tree_machine.proofs.ValueParts.{zip_map, zip_unmap, parts_within, values_within, parts_at, values_at}
use Rattle.tree_machine.proofs.ValueParts.{from_map, all_below, all_in}
use Rattle.ellen.specs.Types.{Side, UpdateWord, Node, Leaf, Record, Ins, EllenMem, Base, SearchLoc, Update, Child}
use Rattle.ellen.specs.Types.{HelpLoc, InsChild, EllenLoc, Search, Help}
use Rattle.tree_machine.specs.declared.search_order.Side.TheVariants as side
use Rattle.ellen.specs.declared.memory.UpdateWord.TheVariants as word
use Rattle.ellen.specs.declared.place.Base.TheVariants.{Again}
use Rattle.ellen.specs.Pairs.{AreBoth, AreWordsPaired, AreNodesPaired, AreRecordsPaired, AreSearchesPaired}
use Rattle.ellen.specs.Pairs.{AreHelpsPaired, ArePlacesPaired, AreMemoriesPaired, ellen_pairs}
use Rattle.ellen.specs.Parts.{word_number, word_record, node_part, record_part, search_part, help_number, side_number}
use Rattle.ellen.specs.Parts.{help_side, help_record, help_node, base_number, place_part, held_part, ellen_parts}
use Rattle.std.proofs.lemmas.List.{length-map}
use Rattle.std.proofs.lemmas.List.Elements.{All-map, All-from_recursion, recursion_from_All}
use Rattle.ellen.specs.Range.{IsNodeIn, IsRecordIn, IsSearchIn, IsPlaceIn, IsInRange, IsPlaceInRange}

module _ (P R : ℕ → ℕ → Type 0) where
  abbrev Parted : Part → Part → Type 0
  Parted a b = ArePartsPaired P R a b

  -- nodes that may be there, as they are read
  abbrev pub AreFoundPaired : Option Node → Option Node → Type 0
  AreFoundPaired a b = AreNodesPaired P R (unwrap_or a (Leaf 0)) (unwrap_or b (Leaf 0))

  -- ---- update words: they are paired exactly if they are of one kind and their records are paired

  pub word_kind : (u v : UpdateWord) → AreWordsPaired R u v → word_number u ≡ word_number v
  word_kind word.Untouched word.Untouched h = refl
  word_kind u v h = search arith

  pub word_named : (u v : UpdateWord) → AreWordsPaired R u v → IsPairedOrNone R (word_record u) (word_record v)
  word_named word.Untouched word.Untouched h = tt
  word_named u v h = search arith

  word_from : (u v : UpdateWord) → word_number u ≡ word_number v → IsPairedOrNone R (word_record u) (word_record v)
      → AreWordsPaired R u v
  word_from word.Untouched word.Untouched e h = tt
  word_from u v e h = search arith

  ruleset words = (word_kind, word_named, word_from, arith)

  -- ---- nodes, records and places of a search are paired exactly if their parts are

  pub node_parts : (a b : Node) → AreNodesPaired P R a b ↔ Parted (node_part a) (node_part b)
  node_parts (Leaf k) (Leaf j) = paired_exactly P R _ _ (λ h. search words) (λ f n r. search words)
  node_parts a b = paired_exactly P R _ _ (λ h. search words) (λ f n r. search words)

  pub record_parts : (a b : Record) → AreRecordsPaired P R a b ↔ Parted (record_part a) (record_part b)
  record_parts (Ins i) (Ins j) = paired_exactly P R _ _ (λ h. search words) (λ f n r. search words)
  record_parts a b = paired_exactly P R _ _ (λ h. search words) (λ f n r. search words)

  search_parts : (a b : SearchLoc) → AreSearchesPaired P R a b ↔ Parted (search_part a) (search_part b)
  search_parts (Update None p) (Update None q) = paired_exactly P R _ _ (λ h. search words) (λ f n r. search words)
  search_parts (Child None p u) (Child None q v) = paired_exactly P R _ _ (λ h. search words) (λ f n r. search words)
  search_parts a b = paired_exactly P R _ _ (λ h. search words) (λ f n r. search words)

  -- ---- places of a help

  side_from : (c d : Side) → side_number c ≡ side_number d → c ≡ d
  side_from side.Left side.Left e = refl
  side_from c d e = search arith

  help_parts : (a b : HelpLoc) → AreHelpsPaired P R a b ↔ (help_number a ≡ help_number b)
      × (help_side a ≡ help_side b) × IsPairedOrNone P (help_node a) (help_node b) × R (help_record a) (help_record b)
  help_parts (InsChild r) (InsChild s) = (λ h. (refl, refl, tt, h), λ h. h.3)
  help_parts a b = (λ h. search (side_from, arith), λ h. search (side_from, arith))

  base_from : (a b : Base) → base_number a ≡ base_number b → a ≡ b
  base_from Again Again e = refl
  base_from a b e = search arith

  -- ---- what threads hold

  -- places are paired exactly if their parts are
  pub place_parts : (a b : EllenLoc) → ArePlacesPaired P R a b ↔ Parted (place_part a) (place_part b)
  place_parts (Search a) (Search b) = search_parts a b
  place_parts (Help a y) (Help b z) = let help = help_parts a b in
      paired_exactly P R _ _
      (λ h. let t = help.0 h.0 in let e = t.0 in let f = t.1 in let g = h.1.1 in
      (cc, (t.2, tt), (t.3, zip_map Some R (IsPairedOrNone R) (λ r s h. h) y.stack z.stack h.1.0)))
      (λ f n r. (
        help.1 ((cc), (cc), n.0, r.0),
        (zip_unmap Some R (IsPairedOrNone R) (λ r s h. h) y.stack z.stack r.1, base_from y.base z.base (cc)),
      ))
  place_parts (Search (Update a p)) (Help b z) = (λ h. absurd h, λ h. let f = h.facts in cc)
  place_parts (Help a y) (Search (Update b p)) = (λ h. absurd h, λ h. let f = h.facts in cc)
  place_parts a b = (λ h. absurd h, λ h. let f = h.facts in cc)

  -- what two threads hold is paired exactly if the parts are
  pub held_parts : (a b : Option EllenLoc)
      → AreHeldPaired (ArePlacesPaired P R) a b ↔ Parted (held_part a) (held_part b)
  held_parts None None = (λ h. record { facts = refl; nodes = tt; records = tt }, λ h. tt)
  held_parts (Some a) (Some b) = place_parts a b
  held_parts None (Some (Search (Update b p))) = (λ h. absurd h, λ h. let f = h.facts in cc)
  held_parts (Some (Search (Update a p))) None = (λ h. absurd h, λ h. let f = h.facts in cc)
  held_parts a b = (λ h. absurd h, λ h. let f = h.facts in cc)

-- ---- memories

module _ (P R : ℕ → ℕ → Type 0) (memory other : EllenMem) (held others : List (Option EllenLoc)) where
  -- what pairs the memories and the places pairs their parts
  pub pairing_to : AreMemoriesPaired P R memory other → AllZip (AreHeldPaired (ArePlacesPaired P R)) held others
      → IsPartsPairing P R 1 (ellen_parts memory held) (ellen_parts other others)
  pairing_to h k = record {
    nodes_one_to_one = h.nodes_one_to_one;
    records_one_to_one = h.records_one_to_one;
    fixed_paired = λ x below. let zeroth : 0 ≡ x = omega arith in subst (λ y. P y y) zeroth h.root;
    nodes_in_range = λ x y p. parts_within node_part memory.nodes other.nodes x y (h.nodes_in_range x y p);
    records_in_range = λ x y p. parts_within record_part memory.records other.records x y (h.records_in_range x y p);
    nodes_paired =
        λ x y p. parts_at node_part memory.nodes other.nodes x y P R (AreFoundPaired P R) (h.nodes_in_range x y p)
        (λ a b. (node_parts P R a b).0) (h.nodes x y p);
    records_paired =
        λ x y p. parts_at record_part memory.records other.records x y P R (AreBoth (AreRecordsPaired P R))
        (h.records_in_range x y p) (λ a b. (record_parts P R a b).0) (h.records x y p);
    held_paired =
        zip_map held_part (AreHeldPaired (ArePlacesPaired P R)) (ArePartsPaired P R) (λ a b. (held_parts P R a b).0)
        held others k;
  }

  -- and what pairs the parts pairs these
  pub pairing_from : IsPartsPairing P R 1 (ellen_parts memory held) (ellen_parts other others)
      → AreMemoriesPaired P R memory other × AllZip (AreHeldPaired (ArePlacesPaired P R)) held others
  pairing_from h =
      let nodes_below : (x y : ℕ) → P x y → (x < length memory.nodes) × (y < length other.nodes) =
      λ x y p. values_within node_part memory.nodes other.nodes x y (h.nodes_in_range x y p) in
      let records_below : (x y : ℕ) → R x y → (x < length memory.records) × (y < length other.records) =
      λ x y p. values_within record_part memory.records other.records x y (h.records_in_range x y p) in (
        record {
          nodes_one_to_one = h.nodes_one_to_one;
          records_one_to_one = h.records_one_to_one;
          root = h.fixed_paired 0 (omega arith);
          nodes_in_range = nodes_below;
          records_in_range = records_below;
          nodes =
              λ x y p. values_at node_part memory.nodes other.nodes x y P R (AreFoundPaired P R) (nodes_below x y p)
              (λ a b. (node_parts P R a b).1) (h.nodes_paired x y p);
          records =
              λ x y p. values_at record_part memory.records other.records x y P R (AreBoth (AreRecordsPaired P R))
              (records_below x y p) (λ a b. (record_parts P R a b).1) (h.records_paired x y p);
        },
        zip_unmap held_part (AreHeldPaired (ArePlacesPaired P R)) (ArePartsPaired P R) (λ a b. (held_parts P R a b).1)
            held others h.held_paired,
      )

-- some pairing pairs the parts exactly if one pairs the memories and what the threads hold
pub parts_alike : (memory other : EllenMem) (held others : List (Option EllenLoc))
    → CanPartsBePaired 1 (ellen_parts memory held) (ellen_parts other others)
    ↔ AreAlike ellen_pairs memory held other others
parts_alike memory other held others = (
  (λ h. let t = pairing_from (IsAmong h.0) (IsAmong h.1) memory other held others h.2 in
      (record { nodes = h.0; records = h.1 }, t.0, t.1)),
  (λ h. (
    h.0.nodes,
    h.0.records,
    pairing_to (IsAmong h.0.nodes) (IsAmong h.0.records) memory other held others h.1 h.2,
  )),
)

-- ---- the numbers of a value are in range exactly if those of its part are

module _ (n m : ℕ) where
  node_exactly : (node : Node) → IsNodeIn n m node ↔ IsPartBelow n m (node_part node)
  node_exactly (Leaf k) = in_range_exactly n m _ (λ h. search) (λ h k. search)
  node_exactly node = in_range_exactly n m _ (λ h. search) (λ h k. search)

  record_exactly : (each : Record) → IsRecordIn n m each ↔ IsPartBelow n m (record_part each)
  record_exactly (Ins i) = in_range_exactly n m _ (λ h. search) (λ h k. search)
  record_exactly each = in_range_exactly n m _ (λ h. search) (λ h k. search)

  search_exactly : (at : SearchLoc) → IsSearchIn n m at ↔ IsPartBelow n m (search_part at)
  search_exactly (Update None p) = in_range_exactly n m _ (λ h. search) (λ h k. search)
  search_exactly (Child None p u) = in_range_exactly n m _ (λ h. search) (λ h k. search)
  search_exactly at = in_range_exactly n m _ (λ h. search) (λ h k. search)

  place_exactly : (place : EllenLoc) → IsPlaceIn n m place ↔ IsPartBelow n m (place_part place)
  place_exactly (Search at) = search_exactly at
  place_exactly (Help at resume) =
      let stack = map Some resume.stack in
      let Below : Option ℕ → Type 0 = λ x. IfSome x (λ y. y < m) in
      in_range_exactly n m _
      (λ h. ((h.0.1, tt), (h.0.0, recursion_from_All Below stack (All-map Below Some resume.stack h.1))))
      (λ h k. (
        (k.0, h.0),
        from_map Some (λ r. r < m) Below (λ r k. k) resume.stack (All-from_recursion Below stack k.1),
      ))

  held_exactly : (held : Option EllenLoc) → IfSome held (IsPlaceIn n m) ↔ IsPartBelow n m (held_part held)
  held_exactly None = in_range_exactly n m _ (λ h. (tt, tt)) (λ h k. tt)
  held_exactly (Some place) = place_exactly place

-- ---- a memory and the places held

-- the parts of a memory and of places in range are in range
pub parts_in_range : (memory : EllenMem) (held : List (Option EllenLoc)) → IsInRange memory
    → All (λ place. IfSome place (IsPlaceInRange memory)) held → ArePartsInRange 1 (ellen_parts memory held)
parts_in_range memory held h at =
    let n = length memory.nodes in
    let m = length memory.records in
    let same = length-map memory.nodes node_part in
    let alike = length-map memory.records record_part in
    record {
      fixed_in_range = let root = h.root in omega arith;
      nodes = all_below node_part (IsNodeIn n m) n m _ _ same alike (λ a. (node_exactly n m a).0) memory.nodes h.nodes;
      records =
          all_below record_part (IsRecordIn n m) n m _ _ same alike (λ a. (record_exactly n m a).0) memory.records
          h.records;
      held =
          all_below held_part (λ place. IfSome place (IsPlaceIn n m)) n m _ _ same alike
          (λ a. (held_exactly n m a).0) held at;
    }

-- and only those
pub values_in_range : (memory : EllenMem) (held : List (Option EllenLoc)) → ArePartsInRange 1 (ellen_parts memory held)
    → IsInRange memory × All (λ place. IfSome place (IsPlaceInRange memory)) held
values_in_range memory held h =
    let n = length memory.nodes in
    let m = length memory.records in
    let same = length-map memory.nodes node_part in
    let alike = length-map memory.records record_part in (
      record {
        root = let root = h.fixed_in_range in omega arith;
        nodes = all_in node_part (IsNodeIn n m) n m _ _ same alike (λ a. (node_exactly n m a).1) memory.nodes h.nodes;
        records =
            all_in record_part (IsRecordIn n m) n m _ _ same alike (λ a. (record_exactly n m a).1) memory.records
            h.records;
      },
      all_in held_part (λ place. IfSome place (IsPlaceIn n m)) n m _ _ same alike (λ a. (held_exactly n m a).1) held
          h.held,
    )
