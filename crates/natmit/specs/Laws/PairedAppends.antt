-- More pairs pair what fewer do, and new nodes, paired under fresh numbers, keep a pairing.
use Rattle.std.specs.Prelude.{◌≡◌, ℕ, nat_lt, [], ◌∷◌, ◌++◌, length, refl}
use Rattle.std.proofs.Common.{ap, inl, inr, length-append}
use Rattle.std.proofs.lemmas.List.{append_assoc}
use Rattle.tree_machine.specs.Laws.PartsExactly.{parts_weaker}
use Rattle.tree_machine.specs.Laws.PairedRange.{fresh_covers}
use Rattle.tree_machine.specs.Pairing.{Pairing, IsAmong}
use Rattle.tree_machine.proofs.FreshPairs.{choices_paired, fresh_one, fresh_within, fresh_paired}
use Rattle.natmit.specs.Types.{Node, Leaf, NatMitMem, NatMitLoc}
use Rattle.natmit.specs.Memory.{node_at, key_at, internal_over, with_internal, new_internal}
use Rattle.natmit.specs.Pairs.{AreNodesPaired, AreMemoriesPaired, ArePlacesPaired}
use Rattle.natmit.specs.Laws.Parts.{node_parts, place_parts}
use Rattle.natmit.specs.Laws.PairedAccesses.{AreFoundPaired, AreGrown, key_paired}

-- ---- more pairs pair what fewer do

module _ (P Q : ℕ → ℕ → Type 0) (f : (x y : ℕ) → P x y → Q x y) where
  nodes_extend : (a b : Node) → AreNodesPaired P a b → AreNodesPaired Q a b
  nodes_extend a b h = (node_parts Q P a b).1 (parts_weaker P Q P P f (λ x y p. p) _ _ ((node_parts P P a b).0 h))

  -- places stay paired
  pub places_extend : (place twin : NatMitLoc) → ArePlacesPaired P place twin → ArePlacesPaired Q place twin
  places_extend a b h = (place_parts Q P a b).1 (parts_weaker P Q P P f (λ x y p. p) _ _ ((place_parts P P a b).0 h))

-- ---- a node that is appended

abbrev with_node : NatMitMem → Node → NatMitMem
with_node memory a = record { nodes = memory.nodes ++ a ∷ [] }

-- the pairs with that of the next new nodes
abbrev pub with_new : Pairing → NatMitMem → NatMitMem → Pairing
with_new p memory twin = record { nodes = (length memory.nodes, length twin.nodes) ∷ p.nodes; records = p.records }

abbrev IsIn : Pairing → ℕ → ℕ → Type 0
IsIn p = IsAmong p.nodes

with_node_paired : (p : Pairing) (memory twin : NatMitMem) (a b : Node) → AreMemoriesPaired (IsIn p) memory twin
    → AreNodesPaired (IsIn (with_new p memory twin)) a b
    → AreMemoriesPaired (IsIn (with_new p memory twin)) (with_node memory a) (with_node twin b)
with_node_paired p memory twin a b h g =
    let Q = IsIn (with_new p memory twin) in
    record {
      one_to_one = fresh_one p.nodes memory.nodes twin.nodes h.in_range h.one_to_one;
      root_paired = inr h.root_paired;
      begin_paired = inr h.begin_paired;
      in_range = fresh_within p.nodes memory.nodes twin.nodes h.in_range a b;
      nodes_paired =
          fresh_paired p.nodes memory.nodes twin.nodes h.in_range a b (AreFoundPaired Q) g
          (λ x y q. nodes_extend (IsIn p) Q (λ v w s. inr s) (node_at memory x) (node_at twin y)
          (h.nodes_paired x y q));
    }

-- ---- a new internal node for a key at a leaf, behind its new leaf

over_paired : (P : ℕ → ℕ → Type 0) (k x y i j l m : ℕ) → P x y → i ≡ j → P l m
    → AreNodesPaired P (internal_over k i x l) (internal_over k j y m)
over_paired P k x y i j l m p e q =
    choices_paired (AreNodesPaired P) (nat_lt k i) (nat_lt k j) _ _ _ _ (ap (nat_lt k) e)
    (e, (refl, refl, p), (refl, refl, q)) (refl, (refl, refl, q), (refl, refl, p))

-- the pairs with those of the new leaves and the new internal nodes
abbrev pub with_two_new : Pairing → NatMitMem → NatMitMem → ℕ → Pairing
with_two_new p memory twin k = with_new (with_new p memory twin) (with_node memory (Leaf k)) (with_node twin (Leaf k))

pub internals_paired : (p : Pairing) (memory twin : NatMitMem) (k : ℕ)
    → IsIn (with_two_new p memory twin k) (new_internal memory) (new_internal twin)
internals_paired p memory twin k =
    inl (length-append memory.nodes (Leaf k ∷ []), length-append twin.nodes (Leaf k ∷ []))

-- they pair what is appended
pub two_new : (p : Pairing) (memory twin : NatMitMem) (h : AreMemoriesPaired (IsIn p) memory twin) (k l m : ℕ)
    → IsIn p l m
    → AreGrown p memory twin h (with_two_new p memory twin k) (with_internal memory k l) (with_internal twin k m)
two_new p memory twin h k l m at =
    let leaves = with_node_paired p memory twin (Leaf k) (Leaf k) h refl in
    let over =
    over_paired (IsIn (with_two_new p memory twin k)) k (length memory.nodes) (length twin.nodes) _ _ l m
    (inr (inl (refl, refl))) (key_paired (IsIn p) _ _ (h.nodes_paired l m at)) (inr (inr at)) in
    record {
      extends = record { nodes = λ x y h. inr (inr h); records = λ x y h. h };
      memories_paired =
          simp append_assoc at
          (with_node_paired (with_new p memory twin) (with_node memory (Leaf k)) (with_node twin (Leaf k)) _ _ leaves
          over);
      whole =
          λ w. simp append_assoc at
          (fresh_covers (with_new p memory twin).nodes (with_node memory (Leaf k)).nodes
          (internal_over k (key_at memory l) (length memory.nodes) l) (length (with_node twin (Leaf k)).nodes)
          (fresh_covers p.nodes memory.nodes (Leaf k) (length twin.nodes) w));
    }
