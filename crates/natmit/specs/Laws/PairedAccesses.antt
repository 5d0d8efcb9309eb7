-- What is read of paired memories is paired, and each kind of access keeps a pairing.
use Rattle.std.specs.Prelude.{◌≡◌, ℕ, nat_eq, refl, Option, Some, None, unwrap_or}
use Rattle.std.proofs.Common.{ap, arith}
use Rattle.std.proofs.lemmas.List.{length-set}
use Rattle.natmit.specs.Types.{Outcome, Astray, Side, Left, Word, Node, Leaf, NatMitMem, NatMitLoc}
use Rattle.tree_machine.specs.SearchOrder.{side_of}
use Rattle.tree_machine.specs.Pairing.{Pairing, Extends, IsAmong, IsOneToOne, AreHeldPaired, AreOutcomesPaired}
use Rattle.tree_machine.specs.Pairing.{AreStepsPaired}
use Rattle.std.specs.Option.{option_map}
use Rattle.tree_machine.specs.Laws.SearchOrderPairs.{AreShapesPaired}
use Rattle.tree_machine.proofs.FreshPairs.{paired_as, choices_paired, same_number, within_set, paired_set}
use Rattle.tree_machine.specs.Laws.PairedRange.{IsCovered}
use Rattle.natmit.specs.Memory.{shape_in, shapes, is_plain, key_in, word_on, with_word, node_at, side_at, set_word}
use Rattle.natmit.specs.Pairs.{AreWordsPaired, AreNodesPaired, AreMemoriesPaired, ArePlacesPaired, natmit_pairs}
use Rattle.natmit.specs.Table.{After, found, after_read, after_exchange, after_tag}

-- ---- what is read of paired nodes

module _ (P : ℕ → ℕ → Type 0) where
  pub key_paired : (a b : Node) → AreNodesPaired P a b → key_in a ≡ key_in b
  key_paired (Leaf k) (Leaf j) h = h
  key_paired a b h = search arith

  -- nodes that may be there, as they are read
  abbrev pub AreFoundPaired : Option Node → Option Node → Type 0
  AreFoundPaired a b = AreNodesPaired P (unwrap_or a (Leaf 0)) (unwrap_or b (Leaf 0))

  -- no word in both, or paired words
  abbrev pub AreReadsPaired : Option Word → Option Word → Type 0
  AreReadsPaired v w = AreHeldPaired (AreWordsPaired P) v w

  word_paired : (d : Side) (a b : Node) → AreNodesPaired P a b → AreReadsPaired (word_on d a) (word_on d b)
  word_paired Left (Leaf k) (Leaf j) h = tt
  word_paired d a b h = search arith

  with_word_paired : (d : Side) (v w : Word) (a b : Node) → AreNodesPaired P a b → AreWordsPaired P v w
      → AreNodesPaired P (with_word d v a) (with_word d w b)
  with_word_paired Left v w (Leaf k) (Leaf j) h g = h
  with_word_paired d v w a b h g = search arith

  -- exchanges that compare with the plain word of paired nodes succeed together
  pub plain_paired : IsOneToOne P → (x y : ℕ) (v w : Word) → P x y → AreWordsPaired P v w → is_plain x v ≡ is_plain y w
  plain_paired one x y v w p h =
      let node : nat_eq v.node x ≡ nat_eq w.node y = same_number P one v.node w.node x y h.2 p in cc

-- ---- a word that is written

module _ (P : ℕ → ℕ → Type 0) (memory twin : NatMitMem) (h : AreMemoriesPaired P memory twin) where
  pub side_paired : (k x y : ℕ) → P x y → side_at k memory x ≡ side_at k twin y
  side_paired k x y p = ap (side_of k) (key_paired P (node_at memory x) (node_at twin y) (h.nodes_paired x y p))

  -- the words of paired nodes on one side
  pub reads_paired : (x y : ℕ) (d e : Side) → P x y → d ≡ e
      → AreReadsPaired P (word_on d (node_at memory x)) (word_on e (node_at twin y))
  reads_paired x y d e p same = rw (← same) (word_paired P d _ _ (h.nodes_paired x y p))

  shapes_paired : (a b : Node) → AreNodesPaired P a b → AreShapesPaired P (Some (shape_in a)) (Some (shape_in b))
  shapes_paired (Leaf k) (Leaf j) g = g
  shapes_paired a b g = search arith

  -- paired nodes are seen alike
  pub seen : (x y : ℕ) → P x y → AreShapesPaired P (shapes memory x) (shapes twin y)
  seen x y at =
      paired_as (AreFoundPaired P) (λ a b. AreShapesPaired P (option_map shape_in a) (option_map shape_in b))
      memory.nodes twin.nodes x y (h.in_range x y at) shapes_paired (h.nodes_paired x y at)

  -- paired nodes get paired words
  pub set_word_paired : (x y : ℕ) (d e : Side) (v w : Word) → P x y → d ≡ e → AreWordsPaired P v w
      → AreMemoriesPaired P (set_word memory x d v) (set_word twin y e w)
  set_word_paired x y d e v w p same g =
      record {
        one_to_one = h.one_to_one;
        root_paired = h.root_paired;
        begin_paired = h.begin_paired;
        in_range = within_set P memory.nodes twin.nodes x y _ _ h.in_range;
        nodes_paired =
            paired_set P memory.nodes twin.nodes x y _ _ (AreFoundPaired P) h.one_to_one h.in_range p
            (rw (← same) (with_word_paired P d v w _ _ (h.nodes_paired x y p) g)) h.nodes_paired;
      }

-- ---- kinds of access

-- p pairs each node of the memory
abbrev pub IsWhole : Pairing → NatMitMem → Type 0
IsWhole p memory = IsCovered (IsAmong p.nodes) memory.nodes

abbrev pub AreGoingAlike : (ℕ → ℕ → Type 0) → Outcome NatMitLoc → Outcome NatMitLoc → Type 0
AreGoingAlike P o q = AreOutcomesPaired (ArePlacesPaired P) o q

module _ (p : Pairing) (memory twin : NatMitMem) (h : AreMemoriesPaired (IsAmong p.nodes) memory twin) where
  abbrev pub P : ℕ → ℕ → Type 0
  P = IsAmong p.nodes

  -- accesses keep a pairing, and where it pairs each node, they leave one that does
  pub record AreAccessesPaired (left right : After) : Type 0 where
    pub steps : AreStepsPaired natmit_pairs p left right
    pub whole : IsWhole p memory → IsWhole steps.then left.0

  -- what is appended on both sides, if anything, and more pairs, which pair it
  pub record AreGrown (q : Pairing) (grown grown_twin : NatMitMem) : Type 0 where
    pub extends : Extends p q
    pub memories_paired : AreMemoriesPaired (IsAmong q.nodes) grown grown_twin
    pub whole : IsWhole p memory → IsWhole q grown

  -- nothing is appended
  pub unchanged : AreGrown p memory twin
  unchanged = record {
    extends = record { nodes = λ x y r. r; records = λ x y r. r };
    memories_paired = h;
    whole = λ w. w;
  }

  stays : (o q : Outcome NatMitLoc) → AreGoingAlike P o q → AreAccessesPaired (memory, o) (twin, q)
  stays o q g = record {
    steps = record { then = p; extends = unchanged.extends; memories_paired = h; outcomes_paired = g };
    whole = λ w. w;
  }

  found_paired : (v w : Option Word) (f g : Word → After) → AreReadsPaired P v w
      → ((v w : Word) → AreWordsPaired P v w → AreAccessesPaired (f v) (g w))
      → AreAccessesPaired (found memory v f) (found twin w g)
  found_paired None None f g r both = stays Astray Astray tt
  found_paired (Some v) (Some w) f g r both = both v w r
  found_paired _ _ f g r both = absurd r

  -- a read
  pub read_keeps : (x y : ℕ) (d e : Side) (f g : Word → Outcome NatMitLoc) → P x y → d ≡ e
      → ((v w : Word) → AreWordsPaired P v w → AreGoingAlike P (f v) (g w))
      → AreAccessesPaired (after_read memory x d f) (after_read twin y e g)
  read_keeps x y d e f g at same both =
      found_paired _ _ _ _ (reads_paired P memory twin h x y d e at same) (λ v w r. stays (f v) (g w) (both v w r))

  -- what is written may name new nodes, which the further pairs pair
  module _ (q : Pairing) (grown grown_twin : NatMitMem) (more : AreGrown q grown grown_twin) where
    written : (x y : ℕ) (d e : Side) (v w : Word) (o r : Outcome NatMitLoc)
        → P x y → d ≡ e → AreWordsPaired (IsAmong q.nodes) v w → AreGoingAlike (IsAmong q.nodes) o r
        → AreAccessesPaired (set_word grown x d v, o) (set_word grown_twin y e w, r)
    written x y d e v w o r at same words goes = record {
      steps = record {
        then = q;
        extends = more.extends;
        memories_paired =
            set_word_paired (IsAmong q.nodes) grown grown_twin more.memories_paired x y d e v w
            (more.extends.nodes x y at) same words;
        outcomes_paired = goes;
      };
      whole = λ w. rw length-set (more.whole w);
    }

    -- an exchange
    pub exchange_keeps : (x y : ℕ) (d e : Side) (l k : ℕ) (desired desired_twin : Word)
        (success failure success_twin failure_twin : Outcome NatMitLoc)
        → P x y → d ≡ e → P l k → AreWordsPaired (IsAmong q.nodes) desired desired_twin
        → AreGoingAlike (IsAmong q.nodes) success success_twin → AreGoingAlike P failure failure_twin
        → AreAccessesPaired (after_exchange memory x d l grown desired success failure)
        (after_exchange twin y e k grown_twin desired_twin success_twin failure_twin)
    exchange_keeps x y d e l k desired desired_twin success failure success_twin failure_twin at same expected words won
        lost =
        found_paired _ _ _ _ (reads_paired P memory twin h x y d e at same)
        (λ v w r. choices_paired AreAccessesPaired (is_plain l v) (is_plain k w) _ _ _ _
        (plain_paired P h.one_to_one l k v w expected r)
        (written x y d e desired desired_twin success success_twin at same words won)
        (stays failure failure_twin lost))

  -- the setting of a tag
  pub tag_keeps : (x y : ℕ) (d e : Side) (goes goes_twin : Outcome NatMitLoc) → P x y → d ≡ e
      → AreGoingAlike P goes goes_twin → AreAccessesPaired (after_tag memory x d goes) (after_tag twin y e goes_twin)
  tag_keeps x y d e goes goes_twin at same going =
      found_paired _ _ _ _ (reads_paired P memory twin h x y d e at same)
      (λ v w r. written p memory twin unchanged x y d e _ _ goes goes_twin at same (r.0, refl, r.2) going)
