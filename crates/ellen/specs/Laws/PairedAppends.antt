-- More pairs pair what fewer do, and new nodes and records, paired under fresh numbers, keep a pairing.
use Rattle.std.specs.Prelude.{◌≡◌, ℕ, ◌+◌, nat_lt, List, [], ◌∷◌, ◌++◌, length, Option, Some, None, refl}
use Rattle.std.proofs.Common.{ap, inl, inr, arith, length-append}
use Rattle.std.proofs.lemmas.List.{append_assoc}
use Rattle.tree_machine.specs.Laws.PartsExactly.{parts_weaker}
use Rattle.tree_machine.specs.Laws.PairedRange.{IsCovered, fresh_covers}
use Rattle.tree_machine.specs.Pairing.{IsAmong, Pairing}
use Rattle.tree_machine.proofs.FreshPairs.{choices_paired, fresh_one, fresh_within, fresh_paired}
use Rattle.ellen.specs.Types.{Node, Leaf, Record, EllenMem, EllenLoc}
use Rattle.ellen.specs.Memory.{node_at, key_at, internal_over, with_internal, add_record}
use Rattle.ellen.specs.Pairs.{AreBoth, AreNodesPaired, AreRecordsPaired, ArePlacesPaired, AreMemoriesPaired}
use Rattle.ellen.specs.Pairs.{ellen_pairs}
use Rattle.ellen.specs.Laws.PairedAccesses.{key_paired}
use Rattle.ellen.specs.Laws.Parts.{AreFoundPaired, node_parts, record_parts, place_parts}

-- ---- more pairs

both_weaker : {A : Type 0} (S T : A → A → Type 0) → ((a b : A) → S a b → T a b) → (x y : Option A) → AreBoth S x y
    → AreBoth T x y
both_weaker S T f None None h = tt
both_weaker S T f (Some a) (Some b) h = f a b h
both_weaker S T f _ _ h = absurd h

module _ (P Q R S : ℕ → ℕ → Type 0) (f : (x y : ℕ) → P x y → Q x y) (g : (x y : ℕ) → R x y → S x y) where
  nodes_weaker : (a b : Node) → AreNodesPaired P R a b → AreNodesPaired Q S a b
  nodes_weaker a b h = (node_parts Q S a b).1 (parts_weaker P Q R S f g _ _ ((node_parts P R a b).0 h))

  -- records stay paired
  pub records_weaker : (a b : Record) → AreRecordsPaired P R a b → AreRecordsPaired Q S a b
  records_weaker a b h = (record_parts Q S a b).1 (parts_weaker P Q R S f g _ _ ((record_parts P R a b).0 h))

  -- places stay paired
  pub places_weaker : (a b : EllenLoc) → ArePlacesPaired P R a b → ArePlacesPaired Q S a b
  places_weaker a b h = (place_parts Q S a b).1 (parts_weaker P Q R S f g _ _ ((place_parts P R a b).0 h))

-- ---- a fresh pair

-- a new record on both sides
pub append_record : (ps rs : List (ℕ × ℕ)) (memory other : EllenMem) (a b : Record)
    → AreMemoriesPaired (IsAmong ps) (IsAmong rs) memory other →
    AreRecordsPaired (IsAmong ps) (IsAmong ((length memory.records, length other.records) ∷ rs)) a b →
    AreMemoriesPaired (IsAmong ps) (IsAmong ((length memory.records, length other.records) ∷ rs)) (add_record memory a)
    (add_record other b)
append_record ps rs memory other a b h g =
    let P : ℕ → ℕ → Type 0 = IsAmong ps in
    let R : ℕ → ℕ → Type 0 = IsAmong rs in
    let S : ℕ → ℕ → Type 0 = IsAmong ((length memory.records, length other.records) ∷ rs) in
    record {
      nodes_one_to_one = h.nodes_one_to_one;
      records_one_to_one = fresh_one rs memory.records other.records h.records_in_range h.records_one_to_one;
      root = h.root;
      nodes_in_range = h.nodes_in_range;
      records_in_range = fresh_within rs memory.records other.records h.records_in_range a b;
      nodes = λ x y p. nodes_weaker P P R S (λ v w q. q) (λ v w q. inr q) (node_at memory x) (node_at other y)
          (h.nodes x y p);
      records = fresh_paired rs memory.records other.records h.records_in_range a b (AreBoth (AreRecordsPaired P S)) g
          (λ x y p. both_weaker (AreRecordsPaired P R) (AreRecordsPaired P S)
          (records_weaker P P R S (λ v w q. q) (λ v w q. inr q)) _ _ (h.records x y p));
    }

abbrev add_node : EllenMem → Node → EllenMem
add_node m a = record { nodes = m.nodes ++ a ∷ []; records = m.records }

internal_paired : (P R : ℕ → ℕ → Type 0) (k j i x y v w : ℕ) → j ≡ i → P x v → P y w
    → AreNodesPaired P R (internal_over k j x y) (internal_over k i v w)
internal_paired P R k j i x y v w e p q =
    choices_paired (AreNodesPaired P R) (nat_lt k j) (nat_lt k i) _ _ _ _ (ap (nat_lt k) e) (e, tt, p, q)
    (refl, tt, q, p)

-- the fresh pairs of a new internal node, its own first
abbrev pub fresh_nodes : EllenMem → EllenMem → List (ℕ × ℕ)
fresh_nodes m o = (length m.nodes + 2, length o.nodes + 2) ∷ (length m.nodes + 1, length o.nodes + 1)
    ∷ (length m.nodes, length o.nodes) ∷ []

two_more : (m : EllenMem) (a b : Node) → length (add_node (add_node m a) b).nodes ≡ length m.nodes + 2
two_more m a b = omega (arith, length-append m.nodes (a ∷ []), length-append (m.nodes ++ a ∷ []) (b ∷ []))

module _ (p : Pairing) (m o : EllenMem) where
  -- these pairs of nodes pair memories with new nodes, and all of these where p pairs all
  pub record IsGrown (pairs : List (ℕ × ℕ)) (memory other : EllenMem) : Type 0 where
    pub paired : AreMemoriesPaired (IsAmong pairs) (IsAmong p.records) memory other
    pub whole : IsCovered (IsAmong p.nodes) m.nodes → IsCovered (IsAmong pairs) memory.nodes

  -- one more node on both sides
  append_node : (ps : List (ℕ × ℕ)) (memory other : EllenMem) (a b : Node) (v w : ℕ) → length memory.nodes ≡ v
      → length other.nodes ≡ w → IsGrown ps memory other
      → AreNodesPaired (IsAmong ((v, w) ∷ ps)) (IsAmong p.records) a b
      → IsGrown ((v, w) ∷ ps) (add_node memory a) (add_node other b)
  append_node ps memory other a b v w here there grown new =
      let h = grown.paired in
      let P : ℕ → ℕ → Type 0 = IsAmong ps in
      let Q : ℕ → ℕ → Type 0 = IsAmong ((length memory.nodes, length other.nodes) ∷ ps) in
      let R : ℕ → ℕ → Type 0 = IsAmong p.records in
      let last : AreNodesPaired Q R a b = rw (← here, ← there) at new in
      rw (← here, ← there)
      (record {
        paired = record {
          nodes_one_to_one = fresh_one ps memory.nodes other.nodes h.nodes_in_range h.nodes_one_to_one;
          records_one_to_one = h.records_one_to_one;
          root = inr h.root;
          nodes_in_range = fresh_within ps memory.nodes other.nodes h.nodes_in_range a b;
          records_in_range = h.records_in_range;
          nodes = fresh_paired ps memory.nodes other.nodes h.nodes_in_range a b (AreFoundPaired Q R) last
              (λ x y q. nodes_weaker P Q R R (λ x y k. inr k) (λ x y k. k) (node_at memory x) (node_at other y)
              (h.nodes x y q));
          records =
              λ x y q. both_weaker (AreRecordsPaired P R) (AreRecordsPaired Q R)
              (records_weaker P Q R R (λ x y k. inr k) (λ x y k. k)) _ _ (h.records x y q);
        };
        whole = λ covered. fresh_covers ps memory.nodes a (length other.nodes) (grown.whole covered);
      })

  module _ (k l n : ℕ) (h : ellen_pairs.memories p m o) (leaves : IsAmong p.nodes l n) where
    -- a new internal node on both sides
    pub internal_grown : IsGrown (fresh_nodes m o ++ p.nodes) (with_internal m k l) (with_internal o k n)
    internal_grown =
        let keys : key_at m l ≡ key_at o n = key_paired _ (IsAmong p.records) _ _ (h.nodes l n leaves) in
        let none : IsGrown p.nodes m o = record { paired = h; whole = λ covered. covered } in
        let one = append_node p.nodes m o (Leaf k) (Leaf k) (length m.nodes) (length o.nodes) refl refl none refl in
        let two =
        append_node _ _ _ (Leaf (key_at m l)) (Leaf (key_at o n)) (length m.nodes + 1) (length o.nodes + 1)
        (length-append m.nodes (Leaf k ∷ [])) (length-append o.nodes (Leaf k ∷ [])) one keys in
        simp append_assoc at
        (append_node _ _ _ _ _ (length m.nodes + 2) (length o.nodes + 2) (two_more m _ _) (two_more o _ _) two
        (internal_paired _ _ k _ _ _ _ _ _ keys (inr (inr (inl (refl, refl)))) (inr (inl (refl, refl)))))
