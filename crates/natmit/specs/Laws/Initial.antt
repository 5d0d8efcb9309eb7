-- The initial memory has its numbers in range, and keeps search order.
use Rattle.std.specs.Prelude.{◌≡◌, ◌≢◌, ℕ, zero, suc, ◌<◌, ◌≤◌, List, []}
use Rattle.std.specs.Prelude.{◌∷◌, length, fold, refl, Some, IfSome, slice_get}
use Rattle.std.specs.Option.{option_map}
use Rattle.std.proofs.Common.{arith, ◌⊎◌, inl, length-append}
use Rattle.std.proofs.lemmas.List.{length-set}
use Rattle.std.proofs.lemmas.List.Elements.{All-nil, All-from_recursion, All-weaker}
use Rattle.sched_program.specs.Program.{IsUserKey, AreInitialKeys}
use Rattle.natmit.specs.Types.{Side, Left, Right, Node, Leaf, Internal, NatMitMem}
use Rattle.tree_machine.specs.declared.search_order.Shape.TheVariants as shape
use Rattle.tree_machine.specs.Pairing.{IsAmong}
use Rattle.tree_machine.specs.SearchOrder.{KeepsSearchOrder, end_of}
use Rattle.tree_machine.proofs.Inserted.{key_of, over_child, put_over}
use Rattle.tree_machine.specs.Laws.PairedRange.{ends_paired}
use Rattle.tree_machine.specs.Laws.InitialKeys.{IsPutIn, stays_ordered}
use Rattle.natmit.specs.Memory.{plain, key_in, shape_in, shapes, with_word, key_at, side_at, internal_over}
use Rattle.natmit.specs.Memory.{with_internal, new_internal}
use Rattle.natmit.specs.Initial.{empty_tree, put_in, initial_memory}
use Rattle.natmit.specs.Range.{IsNodeIn, IsInRange, IsPlaceInRange}
use Rattle.natmit.specs.Laws.PairedAccesses.{seen, set_word_paired}
use Rattle.natmit.specs.Laws.PairedAppends.{with_two_new, internals_paired, two_new}
use Rattle.natmit.specs.Laws.Range.{self_paired, whole_in_range}

-- ---- search order

child_is : (s : Side) (x : ℕ) (node : Node) → shape_in (with_word s (plain x) node) ≡ over_child s x (shape_in node)
child_is s x (Leaf k) = refl
child_is Left x (Internal k l r) = refl
child_is Right x (Internal k l r) = refl

key_is : (node : Node) → key_in node ≡ key_of (shape_in node)
key_is (Leaf k) = refl
key_is (Internal k l r) = refl

-- the leaves of a new internal node are new ones
new_leaves : (k j n l i x : ℕ)
    → option_map shape_in (slice_get (Leaf k ∷ internal_over k j n l ∷ []) x) ≡ Some (shape.Leaf i) → (i ≡ k) ⊎ (i ≡ j)
new_leaves k j n l i zero e = inl cc
new_leaves k j n l i (suc zero) e = grind arith
new_leaves k j n l i (suc (suc x)) e = cc

puts : (memory : NatMitMem) (k : ℕ) → IsPutIn (shapes memory) (shapes (put_in memory k)) k
    (end_of (shapes memory) k (length memory.nodes) 0 0)
puts memory k =
    let n = length memory.nodes in
    let end = end_of (shapes memory) k n 0 0 in
    let j = key_at memory end.leaf in
    put_over (Leaf 0) shape_in key_in (λ s x. with_word s (plain x)) key_is child_is memory.nodes
    (Leaf k ∷ internal_over k j n end.leaf ∷ []) k end end.leaf 1
    (record {
      own = refl;
      over = grind arith;
      beside = inl refl;
      leaves = new_leaves k j n end.leaf;
    })

grows : (memory : NatMitMem) (k : ℕ) → length memory.nodes < length (put_in memory k).nodes
grows memory k = rw (length-set, length-append) (omega arith)

-- the leaves of the empty tree
sentinels : (x j : ℕ) → shapes empty_tree x ≡ Some (shape.Leaf j) → 100 ≤ j
sentinels zero j h = cc
sentinels (suc zero) j h = cc
sentinels (suc (suc zero)) j h = let e : 102 ≡ j = cc in omega arith
sentinels (suc (suc (suc zero))) j h = let e : 100 ≡ j = cc in omega arith
sentinels (suc (suc (suc (suc zero)))) j h = let e : 101 ≡ j = cc in omega arith
sentinels (suc (suc (suc (suc (suc x))))) j h = cc

pub initial_ordered : (keys : List ℕ) → AreInitialKeys keys → KeepsSearchOrder (shapes (initial_memory keys))
initial_ordered keys initial =
    stays_ordered shapes (λ memory. length memory.nodes) put_in puts grows keys empty_tree
    (record {
      ordered = (((omega arith, omega arith), (omega arith, omega arith)), (omega arith, omega arith));
      root_key = 102;
      root_left = 1;
      root_right = 2;
      root = refl;
      absent =
          λ x j is. All-weaker IsUserKey (λ key. key ≢ j)
          (λ key user same. let sentinel = sentinels x j is in omega arith) keys initial.user_keys;
    })
    initial.user_keys initial.distinct

-- ---- numbers in range

put_in_range : (memory : NatMitMem) (k : ℕ) → IsInRange memory → IsInRange (put_in memory k)
put_in_range memory k h =
    let n = length memory.nodes in
    let end = end_of (shapes memory) k n 0 0 in
    let self = self_paired memory [] h (All-nil (λ place. IfSome place (IsPlaceInRange memory))) in
    let p = self.0 in
    let root = self.2.root_paired in
    let ends =
    ends_paired (IsAmong p.nodes) (shapes memory) (shapes memory) (seen (IsAmong p.nodes) memory memory self.2) k n 0
    0 0 0 root root in
    let q = with_two_new p memory memory k in
    let more = two_new p memory memory self.2 k end.leaf end.leaf ends.1 in
    let grown = with_internal memory k end.leaf in
    let side = side_at k memory end.parent in
    let word = plain (new_internal memory) in
    let put =
    set_word_paired (IsAmong q.nodes) grown grown more.memories_paired end.parent end.parent side side word word
    (more.extends.nodes _ _ ends.0) refl (refl, refl, internals_paired p memory memory k) in
    (whole_in_range q (put_in memory k) (put_in memory k) [] [] (rw length-set (more.whole self.1)) put tt).0

empty_in_range : IsInRange empty_tree
empty_in_range =
    record {
      first_nodes = omega arith;
      nodes =
          All-from_recursion (IsNodeIn 5) empty_tree.nodes
          ((omega arith, omega arith), ((omega arith, omega arith), (tt, (tt, (tt, tt)))));
    }

fold_in_range : (keys : List ℕ) (memory : NatMitMem) → IsInRange memory → IsInRange (fold put_in memory keys)
fold_in_range [] memory h = h
fold_in_range (key ∷ keys) memory h = fold_in_range keys (put_in memory key) (put_in_range memory key h)

pub initial_in_range : (keys : List ℕ) → IsInRange (initial_memory keys)
initial_in_range keys = fold_in_range keys empty_tree empty_in_range
