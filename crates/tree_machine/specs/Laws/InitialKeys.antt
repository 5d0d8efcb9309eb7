-- Keys that are inserted into a tree one after the other, each below the leaf that a search for it reaches, leave the
-- tree in search order.
use Rattle.std.specs.Prelude.{◌≡◌, ◌≢◌, ℕ, zero, suc, ◌<◌, ◌≤◌, min, max, List, [], ◌∷◌, fold}
use Rattle.std.specs.Prelude.{refl, Option, Some, None, All, AllPairs, slice_index_or}
use Rattle.std.proofs.Common.{arith, sym, ◌∙◌, ap, subst, ◌⊎◌, inl, inr}
use Rattle.std.proofs.lemmas.Bool.Decides.{leb_tells}
use Rattle.sched_program.specs.Program.{IsUserKey}
use Rattle.tree_machine.specs.declared.search_order.End.{End}
use Rattle.tree_machine.specs.declared.search_order.Shape.{Shape}
use Rattle.tree_machine.specs.declared.search_order.Shape.TheVariants.{Leaf, Internal}
use Rattle.tree_machine.specs.SearchOrder.{IsNodeOrdered, IsOrderedWithin, KeepsSearchOrder, end_of}
use Rattle.tree_machine.specs.Laws.SearchOrder.{apart, more_levels, of_node, to_node, end_at_leaf, end_below}

-- before and after a key was inserted where the search for it ends: a new node took the place of the leaf
pub record IsPutIn (before after : ℕ → Option Shape) (key : ℕ) (end : End) : Type 0 where
  pub new : ℕ
  -- every node but the parent stays
  pub kept : (x : ℕ) (shape : Shape) → (x ≡ end.parent → ⊥) → before x ≡ Some shape → after x ≡ Some shape
  -- the parent has the new node on the side of the key
  pub left : (m l r : ℕ) → before end.parent ≡ Some (Internal m l r) → key < m
      → after end.parent ≡ Some (Internal m new r)
  pub right : (m l r : ℕ) → before end.parent ≡ Some (Internal m l r) → m ≤ key
      → after end.parent ≡ Some (Internal m l new)
  -- the new node is over the key and that of the leaf, in order
  pub over : (m l r j low high : ℕ) → before end.parent ≡ Some (Internal m l r) → before end.leaf ≡ Some (Leaf j)
      → key ≢ j → low ≤ key → key < high → low ≤ j → j < high → IsOrderedWithin after 2 low high new
  -- no leaf came with a third key
  pub leaves : (m l r i j x : ℕ) → before end.parent ≡ Some (Internal m l r) → before end.leaf ≡ Some (Leaf j)
      → after x ≡ Some (Leaf i) → (i ≡ key) ⊎ ((y : ℕ) × (before y ≡ Some (Leaf i)))

-- node x after a key was inserted below it: the parent and the leaf of before, the node of now, and its order
record IsGrown (before after : ℕ → Option Shape) (end : End) (levels low high x : ℕ) : Type 0 where
  parent : (m : ℕ) × (l : ℕ) × (r : ℕ) × (before end.parent ≡ Some (Internal m l r)) × (low < m) × (m < high)
  leaf : (j : ℕ) × (before end.leaf ≡ Some (Leaf j))
  now : (m : ℕ) × (l : ℕ) × (r : ℕ) × (after x ≡ Some (Internal m l r))
  ordered : IsOrderedWithin after levels low high x

module _ (before after : ℕ → Option Shape) (key : ℕ) (end : End) (put : IsPutIn before after key end) where
  module _ (kp lp rp : ℕ) (is : before end.parent ≡ Some (Internal kp lp rp)) where
    -- another shape than the parent's stays
    kept : (x : ℕ) (shape : Shape) → before x ≡ Some shape → (Some shape ≡ Some (Internal kp lp rp) → ⊥)
        → after x ≡ Some shape
    kept x shape e other = put.kept x shape (λ same. other (sym e ∙ ap before same ∙ is)) e

    -- what lies apart from the parent stays in order, within one level more
    frame : (levels low high x : ℕ) → (low < kp → kp < high → ⊥) → IsOrderedWithin before levels low high x
        → IsOrderedWithin after (suc levels) low high x
    frame zero low high x out o = absurd o
    frame (suc levels) low high x out o = grind (arith, frame levels, apart before levels, kept x)

  module _ (fresh : (x j : ℕ) → before x ≡ Some (Leaf j) → key ≢ j) where
    -- an internal node of so many levels stays in order where the key is inserted below it
    abbrev Descends : ℕ → Type 0
    Descends levels = (low high parent x m l r : ℕ) → before x ≡ Some (Internal m l r)
        → IsNodeOrdered (IsOrderedWithin before levels) low high (Some (Internal m l r)) → low ≤ key → key < high
        → end_of before key (suc levels) parent x ≡ end → IsGrown before after end (suc (suc levels)) low high x

    -- from the child on the way of the search to its parent x, which has it on the left or on the right
    module _ (n low high x m lo hi child : ℕ) (left right : ℕ → ℕ) (step : Descends n)
        (e : before x ≡ Some (Internal m (left child) (right child)))
        (inside : (low ≤ lo) × (lo ≤ m) × (m ≤ hi) × (hi ≤ high) × (low < m) × (m < high))
        (beside : lo < m → m < hi → ⊥) (from : lo ≤ key) (under : key < hi)
        (placed : before end.parent ≡ Some (Internal m (left child) (right child))
        → after end.parent ≡ Some (Internal m (left put.new) (right put.new)))
        (ordered : (kp lp rp c : ℕ) → before end.parent ≡ Some (Internal kp lp rp) → lo ≤ kp → kp ≤ hi
        → IsOrderedWithin after (suc (suc n)) lo hi c
        → IsNodeOrdered (IsOrderedWithin after (suc (suc n))) low high (Some (Internal m (left c) (right c)))) where
      grown_by : (shape : Option Shape) → before child ≡ shape → IsNodeOrdered (IsOrderedWithin before n) lo hi shape
          → end_of before key (suc n) x child ≡ end → IsGrown before after end (suc (suc (suc n))) low high x
      grown_by None is o ends = absurd o
      grown_by (Some (Leaf j)) is o ends =
          let here_is : record { parent = x; leaf = child } ≡ end =
          sym (end_at_leaf before key (suc n) x child j is) ∙ ends in
          let parent : x ≡ end.parent = ap (λ z. z.parent) here_is in
          let here = sym (ap before parent) ∙ e in
          let leaf = sym (ap before (ap (λ z. z.leaf) here_is)) ∙ is in
          let there = ap after parent ∙ placed here in
          let over = put.over m _ _ j lo hi here leaf (fresh child j is) from under o.0 o.1 in
          record {
            parent = (m, left child, right child, here, inside.4, inside.5);
            leaf = (j, leaf);
            now = (m, left put.new, right put.new, there);
            ordered = of_node after (suc (suc n)) low high x _ there
                (ordered m _ _ put.new here inside.1 inside.2
                (more_levels after 2 (suc (suc n)) lo hi put.new (omega arith) over));
          }
      grown_by (Some (Internal j l r)) is o ends =
          let t = step lo hi x child j l r is o from under ends in
          let p = t.parent in
          let there =
          kept p.0 p.1 p.2 p.3 x _ e (λ same. let k : m ≡ p.0 = cc in beside (omega arith) (omega arith)) in
          record {
            parent = (p.0, p.1, p.2, p.3, omega arith, omega arith);
            leaf = t.leaf;
            now = (m, left child, right child, there);
            ordered = of_node after (suc (suc n)) low high x _ there
                (ordered p.0 p.1 p.2 child p.3 (omega arith) (omega arith) t.ordered);
          }

    descend : (n : ℕ) → Descends n
    descend zero low high parent x m l r e o from under ends = absurd o.0
    descend (suc n) low high parent x m l r e o from under ends =
        let a = apart before (suc n) low (min m high) l o.0 in
        let b = apart before (suc n) (max m low) high r o.1 in
        let on = sym (end_below before key (suc n) parent x m l r e) ∙ ends in
        elim (leb_tells (suc key) m) [
          | inl t ↦ grown_by n low high x m low (min m high) l (λ c. c) (λ c. r) (descend n) e
              (omega arith) (λ u v. omega arith) from (omega arith) (λ here. put.left m l r here t.1)
              (λ kp lp rp c is u v oc. (oc, frame kp lp rp is (suc n) (max m low) high r (λ p q. omega arith) o.1))
              (before l) refl o.0 (rw t.0 at on)
          | inr t ↦ grown_by n low high x m (max m low) high r (λ c. l) (λ c. c) (descend n) e
              (omega arith) (λ u v. omega arith) (omega arith) under (λ here. put.right m l r here (omega arith))
              (λ kp lp rp c is u v oc. (frame kp lp rp is (suc n) low (min m high) l (λ p q. omega arith) o.0, oc))
              (before r) refl o.1 (rw t.0 at on)
        ]

    -- the tree stays in order
    root_grown : (levels m l r : ℕ) → before 0 ≡ Some (Internal m l r) → IsOrderedWithin before levels 0 103 0
        → key < 103 → end_of before key levels 0 0 ≡ end → IsGrown before after end (suc levels) 0 103 0
    root_grown zero m l r e o under ends = absurd o
    root_grown (suc n) m l r e o under ends = grind (arith, descend, to_node)

-- memories into which keys are inserted, one after the other
module _ {Memory : Type 0} (shapes : Memory → ℕ → Option Shape) (count : Memory → ℕ) (put_in : Memory → ℕ → Memory)
    (puts : (memory : Memory) (key : ℕ) → IsPutIn (shapes memory) (shapes (put_in memory key)) key
    (end_of (shapes memory) key (count memory) 0 0))
    (grows : (memory : Memory) (key : ℕ) → count memory < count (put_in memory key)) where
  -- a tree in order that has none of these keys yet
  pub record IsReady (memory : Memory) (keys : List ℕ) : Type 0 where
    pub ordered : IsOrderedWithin (shapes memory) (count memory) 0 103 0
    pub root_key : ℕ
    pub root_left : ℕ
    pub root_right : ℕ
    pub root : shapes memory 0 ≡ Some (Internal root_key root_left root_right)
    pub absent : (x j : ℕ) → shapes memory x ≡ Some (Leaf j) → All (λ key. key ≢ j) keys

  ready : (memory : Memory) (key : ℕ) (keys : List ℕ) → IsReady memory (key ∷ keys) → IsUserKey key
      → All (λ other. other ≢ key) keys → IsReady (put_in memory key) keys
  ready memory key keys h user apart_from =
      let put = puts memory key in
      let t =
      root_grown (shapes memory) (shapes (put_in memory key)) key _ put
      (λ x j is. h.absent x j is zero 0 (omega arith)) (count memory) _ _ _ h.root h.ordered (omega arith) refl in
      let p = t.parent in
      record {
        ordered = more_levels _ (suc (count memory)) _ 0 103 0 (grows memory key) t.ordered;
        root_key = t.now.0;
        root_left = t.now.1;
        root_right = t.now.2;
        root = t.now.3;
        absent = λ x j is i d below. elim (put.leaves p.0 p.1 p.2 j t.leaf.0 x p.3 t.leaf.1 is) [
          | inl same ↦ subst (λ k. slice_index_or keys i d ≢ k) (sym same) (apart_from i d below)
          | inr old ↦ h.absent old.0 j old.1 (suc i) d (omega arith)
        ];
      }

  -- user keys, each once, leave the tree in search order
  pub stays_ordered : (keys : List ℕ) (memory : Memory) → IsReady memory keys → All IsUserKey keys
      → AllPairs (λ a b. a ≢ b) keys → KeepsSearchOrder (shapes (fold put_in memory keys))
  stays_ordered [] memory h user distinct = record { levels = count memory; within = h.ordered }
  stays_ordered (key ∷ keys) memory h user distinct =
      stays_ordered keys (put_in memory key)
      (ready memory key keys h (user zero 0 (omega arith))
      (λ i d below same. distinct zero (suc i) d (omega arith) (omega arith) (sym same)))
      (λ i d below. user (suc i) d (omega arith))
      (λ i j d early below. distinct (suc i) (suc j) d (omega arith) (omega arith))
