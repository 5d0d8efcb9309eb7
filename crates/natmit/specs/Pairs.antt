-- When a pairing of node numbers pairs words, nodes, places and memories: they differ in the numbers alone.
use Rattle.std.specs.Prelude.{◌≡◌, ℕ, ◌<◌, length}
use Rattle.tree_machine.specs.Pairing.{IsAmong, IsOneToOne, Pairs}
use Rattle.natmit.specs.Types.{Word, Node, Leaf, Internal, NatMitMem, Mode, Plain, Owner, Path, NatMitLoc, Begin, Down}
use Rattle.natmit.specs.Types.{Put, Flag, Look, CleanRead, Tag, Sibling, Swing}
use Rattle.natmit.specs.Memory.{node_at}

module _ (P : ℕ → ℕ → Type 0) where
  -- equal flags and tags, and paired nodes
  abbrev pub AreWordsPaired : Word → Word → Type 0
  AreWordsPaired v w = (v.flag ≡ w.flag) × (v.tag ≡ w.tag) × P v.node w.node

  -- nodes of equal kind and key, whose children are paired side by side
  abbrev pub AreNodesPaired : Node → Node → Type 0
  AreNodesPaired (Leaf k) (Leaf j) = k ≡ j
  AreNodesPaired (Internal k l r) (Internal j m s) = (k ≡ j) × AreWordsPaired l m × AreWordsPaired r s
  AreNodesPaired _ _ = ⊥

  abbrev pub AreModesPaired : Mode → Mode → Type 0
  AreModesPaired Plain Plain = Unit {0}
  AreModesPaired (Owner o) (Owner q) = P o q
  AreModesPaired _ _ = ⊥

  abbrev pub ArePathsPaired : Path → Path → Type 0
  ArePathsPaired p q = P p.ancestor q.ancestor × P p.successor q.successor × P p.parent q.parent

  -- places of one kind, with paired nodes and equal other locals; p l as in the place table, q k for the twin
  abbrev pub ArePlacesPaired : NatMitLoc → NatMitLoc → Type 0
  ArePlacesPaired (Begin m) (Begin o) = AreModesPaired m o
  ArePlacesPaired (Down p l t m) (Down q k v o) = ArePathsPaired p q × P l k × (t ≡ v) × AreModesPaired m o
  ArePlacesPaired (Put p l) (Put q k) = ArePathsPaired p q × P l k
  ArePlacesPaired (Flag p l) (Flag q k) = ArePathsPaired p q × P l k
  ArePlacesPaired (Look p l) (Look q k) = ArePathsPaired p q × P l k
  ArePlacesPaired (CleanRead p m) (CleanRead q o) = ArePathsPaired p q × AreModesPaired m o
  ArePlacesPaired (Tag p d m) (Tag q e o) = ArePathsPaired p q × (d ≡ e) × AreModesPaired m o
  ArePlacesPaired (Sibling p d m) (Sibling q e o) = ArePathsPaired p q × (d ≡ e) × AreModesPaired m o
  ArePlacesPaired (Swing a s f x m) (Swing b u g y o) = P a b × P s u × (f ≡ g) × P x y × AreModesPaired m o
  ArePlacesPaired _ _ = ⊥

  -- P is one to one, pairs the root and node 1 with themselves, and pairs nodes that are paired
  pub record AreMemoriesPaired (memory twin : NatMitMem) : Type 0 where
    pub one_to_one : IsOneToOne P
    pub root_paired : P 0 0
    pub begin_paired : P 1 1
    pub in_range : (x y : ℕ) → P x y → (x < length memory.nodes) × (y < length twin.nodes)
    pub nodes_paired : (x y : ℕ) → P x y → AreNodesPaired (node_at memory x) (node_at twin y)

-- memories and places name no records
abbrev pub natmit_pairs : Pairs NatMitMem NatMitLoc
natmit_pairs =
    record {
      memories = λ p memory twin. AreMemoriesPaired (IsAmong p.nodes) memory twin;
      places = λ p place twin. ArePlacesPaired (IsAmong p.nodes) place twin;
    }
