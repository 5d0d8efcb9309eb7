-- Memories and places that differ in the numbers of their nodes and records alone.
use Rattle.std.specs.Prelude.{◌≡◌, ℕ, ◌<◌, length, Option, Some, None}
use Rattle.std.specs.List.{AllZip}
use Rattle.tree_machine.specs.Pairing.{IsAmong, IsOneToOne, Pairs}
use Rattle.ellen.specs.Types.{UpdateWord, Node, Leaf, Internal, Record, Ins, Del, EllenMem, Above, Resume, SearchLoc}
use Rattle.ellen.specs.Types.{Update, Child, IFlag, InsOnly, DFlag, HelpLoc, InsChild, InsClean, Mark, Right, Other}
use Rattle.ellen.specs.Types.{Splice, DelClean, Back, EllenLoc, Search, Help}
use Rattle.ellen.specs.declared.memory.UpdateWord.TheVariants as word
use Rattle.ellen.specs.Memory.{node_at, record_at}

-- neither is there, or both are and are paired
abbrev pub AreBoth : {A : Type 0} → (A → A → Type 0) → Option A → Option A → Type 0
AreBoth T None None = Unit {0}
AreBoth T (Some a) (Some b) = T a b
AreBoth T _ _ = ⊥

-- ---- P pairs the numbers of nodes, R those of records

-- equal states, and records that are paired, or none in both
abbrev pub AreWordsPaired : (ℕ → ℕ → Type 0) → UpdateWord → UpdateWord → Type 0
AreWordsPaired R word.Untouched word.Untouched = Unit {0}
AreWordsPaired R (word.Clean r) (word.Clean s) = R r s
AreWordsPaired R (word.InsertFlag r) (word.InsertFlag s) = R r s
AreWordsPaired R (word.DeleteFlag r) (word.DeleteFlag s) = R r s
AreWordsPaired R (word.Mark r) (word.Mark s) = R r s
AreWordsPaired R _ _ = ⊥

module _ (P R : ℕ → ℕ → Type 0) where
  -- nodes of equal kind and key, whose children are paired side by side
  abbrev pub AreNodesPaired : Node → Node → Type 0
  AreNodesPaired (Leaf k) (Leaf j) = k ≡ j
  AreNodesPaired (Internal k u l r) (Internal j v m s) = (k ≡ j) × AreWordsPaired R u v × P l m × P r s
  AreNodesPaired _ _ = ⊥

  -- records of one kind, whose nodes are paired field by field
  abbrev pub AreRecordsPaired : Record → Record → Type 0
  AreRecordsPaired (Ins i) (Ins j) = P i.parent j.parent × P i.leaf j.leaf × P i.new j.new
  AreRecordsPaired (Del d) (Del e) = P d.grandparent e.grandparent × P d.parent e.parent × P d.leaf e.leaf
      × AreWordsPaired R d.parent_update e.parent_update
  AreRecordsPaired _ _ = ⊥

  -- paired nodes, with paired update words
  abbrev pub AreAbovesPaired : Above → Above → Type 0
  AreAbovesPaired a b = P a.node b.node × AreWordsPaired R a.update b.update

  -- places of a search of one kind, with paired nodes and records
  abbrev pub AreSearchesPaired : SearchLoc → SearchLoc → Type 0
  AreSearchesPaired (Update a p) (Update b q) = AreBoth AreAbovesPaired a b × P p q
  AreSearchesPaired (Child a p u) (Child b q v) = AreBoth AreAbovesPaired a b × P p q × AreWordsPaired R u v
  AreSearchesPaired (IFlag p u l) (IFlag q v m) = P p q × AreWordsPaired R u v × P l m
  AreSearchesPaired (InsOnly p l) (InsOnly q m) = P p q × P l m
  AreSearchesPaired (DFlag a p u l) (DFlag b q v m) = AreAbovesPaired a b × P p q × AreWordsPaired R u v × P l m
  AreSearchesPaired _ _ = ⊥

  -- places of a help of one kind, with paired nodes and records and equal sides
  abbrev pub AreHelpsPaired : HelpLoc → HelpLoc → Type 0
  AreHelpsPaired (InsChild r) (InsChild s) = R r s
  AreHelpsPaired (InsClean r) (InsClean s) = R r s
  AreHelpsPaired (Mark r) (Mark s) = R r s
  AreHelpsPaired (Right r) (Right s) = R r s
  AreHelpsPaired (Other r c) (Other s d) = R r s × (c ≡ d)
  AreHelpsPaired (Splice r o) (Splice s q) = R r s × P o q
  AreHelpsPaired (DelClean r) (DelClean s) = R r s
  AreHelpsPaired (Back r) (Back s) = R r s
  AreHelpsPaired _ _ = ⊥

  -- stacks of equal lengths with records that are paired one by one, and the same base
  abbrev pub AreResumesPaired : Resume → Resume → Type 0
  AreResumesPaired y z = AllZip R y.stack z.stack × (y.base ≡ z.base)

  -- places of one kind, with paired nodes and records, and equal other locals
  abbrev pub ArePlacesPaired : EllenLoc → EllenLoc → Type 0
  ArePlacesPaired (Search a) (Search b) = AreSearchesPaired a b
  ArePlacesPaired (Help a y) (Help b z) = AreHelpsPaired a b × AreResumesPaired y z
  ArePlacesPaired _ _ = ⊥

-- P pairs nodes and R pairs records, each one to one: what they pair is alike, and the root is paired with itself
pub record AreMemoriesPaired (P R : ℕ → ℕ → Type 0) (memory other : EllenMem) : Type 0 where
  pub nodes_one_to_one : IsOneToOne P
  pub records_one_to_one : IsOneToOne R
  pub root : P 0 0
  pub nodes_in_range : (x y : ℕ) → P x y → (x < length memory.nodes) × (y < length other.nodes)
  pub records_in_range : (x y : ℕ) → R x y → (x < length memory.records) × (y < length other.records)
  pub nodes : (x y : ℕ) → P x y → AreNodesPaired P R (node_at memory x) (node_at other y)
  pub records : (x y : ℕ) → R x y → AreBoth (AreRecordsPaired P R) (record_at memory x) (record_at other y)

-- when a pairing pairs two memories, and two places
abbrev pub ellen_pairs : Pairs EllenMem EllenLoc
ellen_pairs = record {
  memories = λ p memory other. AreMemoriesPaired (IsAmong p.nodes) (IsAmong p.records) memory other;
  places = λ p place twin. ArePlacesPaired (IsAmong p.nodes) (IsAmong p.records) place twin;
}
