-- Each kind of access keeps a pairing.
use Rattle.std.specs.Prelude.{◌≡◌, ℕ, Bool, true, false, ◌&&◌, nat_eq, List, [], ◌∷◌, ◌++◌, Option, Some, None, refl}
use Rattle.std.proofs.Common.{◌∙◌, ap, arith, inr}
use Rattle.std.proofs.lemmas.List.{length-set}
use Rattle.tree_machine.specs.Cells.{IsPairedOrNone}
use Rattle.tree_machine.specs.Pairing.{IsAmong, IsOneToOne, Pairing, Extends, AreOutcomesPaired, AreStepsPaired}
use Rattle.std.specs.Option.{option_map}
use Rattle.tree_machine.specs.Laws.SearchOrderPairs.{AreShapesPaired}
use Rattle.tree_machine.proofs.FreshPairs.{paired_as, choices_paired, same_number, within_set, paired_set}
use Rattle.tree_machine.specs.Laws.PairedRange.{IsCovered}
use Rattle.tree_machine.specs.SearchOrder.{side_of}
use Rattle.ellen.specs.Types.{Outcome, Astray, Side, UpdateWord, Node, Leaf, InsertRecord, DeleteRecord, Record, Ins}
use Rattle.ellen.specs.Types.{Del, EllenMem, EllenLoc}
use Rattle.tree_machine.specs.declared.search_order.Side.TheVariants as side
use Rattle.ellen.specs.declared.memory.UpdateWord.TheVariants as word
use Rattle.ellen.specs.Memory.{shape_in, shapes, key_in, update_of, child_on, with_update, with_child, is_word, node_at}
use Rattle.ellen.specs.Memory.{key_at, set_node}
use Rattle.ellen.specs.Memory.{shape_in, shapes, insert_of, delete_of}
use Rattle.ellen.specs.Table.{After, found, read_update, read_child, exchange_update, exchange_child}
use Rattle.ellen.specs.Pairs.{AreBoth, AreWordsPaired, AreNodesPaired, AreRecordsPaired, AreMemoriesPaired, ellen_pairs}
use Rattle.ellen.specs.Parts.{word_number, word_record}
use Rattle.ellen.specs.Laws.Parts.{AreFoundPaired, word_kind, word_named}

-- ---- equal tests

-- neither is there, or both are and are the same
abbrev are_same : Option ℕ → Option ℕ → Bool
are_same None None = true
are_same (Some r) (Some s) = nat_eq r s
are_same _ _ = false

-- words are the same exactly if they are of one kind, with the same record or none
word_is : (u f : UpdateWord)
    → is_word u f ≡ (nat_eq (word_number u) (word_number f) && are_same (word_record u) (word_record f))
word_is word.Untouched word.Untouched = refl
word_is u f = grind arith

module _ (R : ℕ → ℕ → Type 0) (one : IsOneToOne R) where
  records_compared : (a b c d : Option ℕ) → IsPairedOrNone R a b → IsPairedOrNone R c d → are_same a c ≡ are_same b d
  records_compared None None None None p q = refl
  records_compared (Some r) (Some s) (Some t) (Some w) p q = same_number R one r s t w p q
  records_compared a b c d p q = search arith

  -- two exchanges that compare with paired update words succeed together
  pub words_compared : (u v f g : UpdateWord) → AreWordsPaired R u v → AreWordsPaired R f g → is_word u f ≡ is_word v g
  words_compared u v f g p q =
      let same = records_compared _ _ _ _ (word_named R R u v p) (word_named R R f g q) in
      cc (word_is u f, word_is v g, word_kind R R u v p, word_kind R R f g q, same)

-- ---- paired nodes have paired fields

module _ (P R : ℕ → ℕ → Type 0) where
  -- paired nodes have one key
  pub key_paired : (a b : Node) → AreNodesPaired P R a b → key_in a ≡ key_in b
  key_paired (Leaf k) (Leaf j) h = h
  key_paired a b h = search arith

  update_paired : (a b : Node) → AreNodesPaired P R a b → AreBoth (AreWordsPaired R) (update_of a) (update_of b)
  update_paired (Leaf k) (Leaf j) h = tt
  update_paired a b h = search arith

  child_paired : (s : Side) (a b : Node) → AreNodesPaired P R a b → AreBoth P (child_on s a) (child_on s b)
  child_paired side.Left (Leaf k) (Leaf j) h = tt
  child_paired s a b h = search arith

  children_paired : (c d : Side) (a b : Node) → c ≡ d → AreNodesPaired P R a b → AreBoth P (child_on c a) (child_on d b)
  children_paired c d a b e h = rw (← e) (child_paired c a b h)

  with_update_paired : (u v : UpdateWord) (a b : Node) → AreWordsPaired R u v → AreNodesPaired P R a b
      → AreNodesPaired P R (with_update u a) (with_update v b)
  with_update_paired u v (Leaf k) (Leaf j) g h = h
  with_update_paired u v a b g h = search arith

  with_child_paired : (s : Side) (x y : ℕ) (a b : Node) → P x y → AreNodesPaired P R a b
      → AreNodesPaired P R (with_child s x a) (with_child s y b)
  with_child_paired side.Left x y (Leaf k) (Leaf j) p h = h
  with_child_paired s x y a b p h = search arith

  pub with_children_paired : (c d : Side) (x y : ℕ) (a b : Node) → c ≡ d → P x y → AreNodesPaired P R a b
      → AreNodesPaired P R (with_child c x a) (with_child d y b)
  with_children_paired c d x y a b e p h = rw (← e) (with_child_paired c x y a b p h)

  shapes_paired : (a b : Node) → AreNodesPaired P R a b → AreShapesPaired P (Some (shape_in a)) (Some (shape_in b))
  shapes_paired (Leaf k) (Leaf j) h = h
  shapes_paired a b h = search arith

  -- paired nodes are seen alike
  pub seen : (memory other : EllenMem) → AreMemoriesPaired P R memory other → (x y : ℕ) → P x y
      → AreShapesPaired P (shapes memory x) (shapes other y)
  seen memory other h x y p =
      paired_as (AreFoundPaired P R) (λ a b. AreShapesPaired P (option_map shape_in a) (option_map shape_in b))
      memory.nodes other.nodes x y (h.nodes_in_range x y p) shapes_paired (h.nodes x y p)

-- ---- a node is replaced on both sides

pub replace_node : (P R : ℕ → ℕ → Type 0) (memory other : EllenMem) (x y : ℕ) (a b : Node)
    → AreMemoriesPaired P R memory other → P x y → AreNodesPaired P R a b
    → AreMemoriesPaired P R (set_node memory x a) (set_node other y b)
replace_node P R memory other x y a b h p g = record {
  nodes_one_to_one = h.nodes_one_to_one;
  records_one_to_one = h.records_one_to_one;
  root = h.root;
  nodes_in_range = within_set P memory.nodes other.nodes x y a b h.nodes_in_range;
  records_in_range = h.records_in_range;
  nodes =
      paired_set P memory.nodes other.nodes x y a b (AreFoundPaired P R) h.nodes_one_to_one h.nodes_in_range p g
      h.nodes;
  records = h.records;
}

-- ---- more pairs

-- the pairs behind the fresh ones
pub behind : (fresh pairs : List (ℕ × ℕ)) (x y : ℕ) → IsAmong pairs x y → IsAmong (fresh ++ pairs) x y
behind [] pairs x y h = h
behind (p ∷ fresh) pairs x y h = inr (behind fresh pairs x y h)

-- these pairs of nodes and of records before those of p
abbrev pub with_pairs : List (ℕ × ℕ) → List (ℕ × ℕ) → Pairing → Pairing
with_pairs nodes records p = record { nodes = nodes ++ p.nodes; records = records ++ p.records }

-- p pairs each node and each record of the memory
abbrev pub IsWhole : Pairing → EllenMem → Type 0
IsWhole p m = IsCovered (IsAmong p.nodes) m.nodes × IsCovered (IsAmong p.records) m.records

-- ---- kinds of access

module _ (p : Pairing) (m o : EllenMem) (h : ellen_pairs.memories p m o) where
  abbrev P : ℕ → ℕ → Type 0
  P = IsAmong p.nodes

  abbrev R : ℕ → ℕ → Type 0
  R = IsAmong p.records

  abbrev Outcomes : Outcome EllenLoc → Outcome EllenLoc → Type 0
  Outcomes a b = AreOutcomesPaired (ellen_pairs.places p) a b

  -- accesses keep a pairing, and where it pairs each node and record, they leave one that does
  pub record Steps (left right : After) : Type 0 where
    pub paired : AreStepsPaired ellen_pairs p left right
    pub whole : IsWhole p m → IsWhole paired.then left.0

  -- the memories stay as they are
  stay : (a b : Outcome EllenLoc) → Outcomes a b → Steps (m, a) (o, b)
  stay a b k =
      let extends : Extends p p = record { nodes = λ x y q. q; records = λ x y q. q } in
      record {
        paired = record { then = p; extends = extends; memories_paired = h; outcomes_paired = k };
        whole = λ w. w;
      }

  found_keeps : {A : Type 0} (T : A → A → Type 0) (x y : Option A) (f g : A → After) → AreBoth T x y
      → ((a b : A) → T a b → Steps (f a) (g b)) → Steps (found m x f) (found o y g)
  found_keeps T None None f g t k = stay Astray Astray tt
  found_keeps T (Some a) (Some b) f g t k = k a b t
  found_keeps T _ _ f g t k = absurd t

  -- a read of an update word
  pub read_update_keeps : (x y : ℕ) (f g : UpdateWord → Outcome EllenLoc) → P x y
      → ((u v : UpdateWord) → AreWordsPaired R u v → Outcomes (f u) (g v))
      → Steps (read_update m x f) (read_update o y g)
  read_update_keeps x y f g q k =
      found_keeps (AreWordsPaired R) _ _ _ _ (update_paired P R _ _ (h.nodes x y q))
      (λ u v w. stay (f u) (g v) (k u v w))

  -- a read of a child
  pub read_child_keeps : (x y : ℕ) (c d : Side) (f g : ℕ → Outcome EllenLoc) → P x y → c ≡ d
      → ((a b : ℕ) → P a b → Outcomes (f a) (g b)) → Steps (read_child m x c f) (read_child o y d g)
  read_child_keeps x y c d f g q e k =
      found_keeps P _ _ _ _ (children_paired P R c d _ _ e (h.nodes x y q)) (λ a b w. stay (f a) (g b) (k a b w))

  -- an exchange, where a and b are the memories with what is new, which these pairs of nodes and of records pair
  module _ (nodes records : List (ℕ × ℕ)) (a b : EllenMem)
      (after : ellen_pairs.memories (with_pairs nodes records p) a b)
      (whole : IsWhole p m → IsWhole (with_pairs nodes records p) a) where
    abbrev Q : ℕ → ℕ → Type 0
    Q = IsAmong (nodes ++ p.nodes)

    abbrev S : ℕ → ℕ → Type 0
    S = IsAmong (records ++ p.records)

    abbrev Later : Outcome EllenLoc → Outcome EllenLoc → Type 0
    Later left right = AreOutcomesPaired (ellen_pairs.places (with_pairs nodes records p)) left right

    -- nodes are replaced on both sides
    written : (x y : ℕ) (c d : Node) (s t : Outcome EllenLoc) → P x y
        → (AreNodesPaired Q S (node_at a x) (node_at b y) → AreNodesPaired Q S c d) → Later s t
        → Steps (set_node a x c, s) (set_node b y d, t)
    written x y c d s t q new won =
        let at = behind nodes p.nodes x y q in
        record {
          paired = record {
            then = with_pairs nodes records p;
            extends = record { nodes = behind nodes p.nodes; records = behind records p.records };
            memories_paired = replace_node Q S a b x y c d after at (new (after.nodes x y at));
            outcomes_paired = won;
          };
          whole = λ w. let t = whole w in (rw length-set t.0, t.1);
        }

    -- an exchange of an update word
    pub exchange_update_keeps : (x y : ℕ) (e f d g : UpdateWord) (s t : Outcome EllenLoc)
        (k l : UpdateWord → Outcome EllenLoc) → P x y → AreWordsPaired R e f → AreWordsPaired S d g →
        Later s t → ((u v : UpdateWord) → AreWordsPaired R u v → Outcomes (k u) (l v))
        → Steps (exchange_update m x e d a s k) (exchange_update o y f g b t l)
    exchange_update_keeps x y e f d g s t k l q same new won lost =
        found_keeps (AreWordsPaired R) _ _ _ _ (update_paired P R _ _ (h.nodes x y q))
        (λ u v w. choices_paired Steps (is_word u e) (is_word v f) _ _ _ _
        (words_compared R h.records_one_to_one u v e f w same)
        (written x y _ _ s t q (with_update_paired Q S d g _ _ new) won) (stay (k u) (l v) (lost u v w)))

    -- an exchange of a child
    pub exchange_child_keeps : (x y c d n i : ℕ) (s t k l : Outcome EllenLoc) → P x y → P c d → Q n i → Later s t
        → Outcomes k l → Steps (exchange_child m x c n a s k) (exchange_child o y d i b t l)
    exchange_child_keeps x y c d n i s t k l q same new won lost =
        let sides : side_of (key_at a n) (key_at m x) ≡ side_of (key_at b i) (key_at o y) =
        ap (λ j. side_of j (key_at m x)) (key_paired Q S _ _ (after.nodes n i new))
        ∙ ap (side_of (key_at b i)) (key_paired P R _ _ (h.nodes x y q)) in
        found_keeps P _ _ _ _ (children_paired P R _ _ _ _ sides (h.nodes x y q))
        (λ u v w. choices_paired Steps (nat_eq u c) (nat_eq v d) _ _ _ _
        (same_number P h.nodes_one_to_one u v c d w same)
        (written x y _ _ s t q (with_children_paired Q S _ _ n i _ _ sides new) won) (stay k l lost))

  -- the record that a row wants is there, of that kind, on both sides, or the row goes astray on both
  pub insert_keeps : (x y : Option Record) (f g : InsertRecord → After) → AreBoth (AreRecordsPaired P R) x y
      → ((i j : InsertRecord) → AreRecordsPaired P R (Ins i) (Ins j) → Steps (f i) (g j))
      → Steps (found m (insert_of x) f) (found o (insert_of y) g)
  insert_keeps None None f g t k = stay Astray Astray tt
  insert_keeps (Some (Ins i)) (Some (Ins j)) f g t k = k i j t
  insert_keeps (Some (Del i)) (Some (Del j)) f g t k = stay Astray Astray tt
  insert_keeps _ _ f g t k = absurd t

  -- and so of a delete
  pub delete_keeps : (x y : Option Record) (f g : DeleteRecord → After) → AreBoth (AreRecordsPaired P R) x y
      → ((i j : DeleteRecord) → AreRecordsPaired P R (Del i) (Del j) → Steps (f i) (g j))
      → Steps (found m (delete_of x) f) (found o (delete_of y) g)
  delete_keeps None None f g t k = stay Astray Astray tt
  delete_keeps (Some (Ins i)) (Some (Ins j)) f g t k = stay Astray Astray tt
  delete_keeps (Some (Del i)) (Some (Del j)) f g t k = k i j t
  delete_keeps _ _ f g t k = absurd t
