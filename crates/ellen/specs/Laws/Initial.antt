-- The initial memory has its numbers in range and keeps search order.
use Rattle.std.specs.Prelude.{◌≡◌, ◌≢◌, ℕ, zero, suc, ◌+◌, ◌<◌, ◌≤◌, List, []}
use Rattle.std.specs.Prelude.{◌∷◌, ◌++◌, length, fold, refl, Some, IfSome, slice_get}
use Rattle.std.specs.Option.{option_map}
use Rattle.std.proofs.Common.{arith, ◌⊎◌, inl, inr, length-append}
use Rattle.std.proofs.lemmas.List.{length-set}
use Rattle.std.proofs.lemmas.List.Elements.{All-nil, All-from_recursion, All-weaker}
use Rattle.sched_program.specs.Program.{IsUserKey, AreInitialKeys}
use Rattle.tree_machine.specs.declared.search_order.Shape.TheVariants as shape
use Rattle.ellen.specs.Types.{Side, Node, Leaf, Internal, EllenMem}
use Rattle.tree_machine.specs.declared.search_order.Side.TheVariants.{Left, Right}
use Rattle.tree_machine.specs.Pairing.{IsAmong}
use Rattle.tree_machine.specs.SearchOrder.{side_of, KeepsSearchOrder, end_of}
use Rattle.tree_machine.proofs.Inserted.{key_of, over_child, put_over}
use Rattle.tree_machine.specs.Laws.PairedRange.{ends_paired}
use Rattle.tree_machine.specs.Laws.InitialKeys.{IsPutIn, stays_ordered}
use Rattle.ellen.specs.Memory.{shape_in, shapes, key_in, key_at, with_child, internal_over, with_internal}
use Rattle.ellen.specs.Initial.{empty_tree, put_in, initial_memory}
use Rattle.ellen.specs.Range.{IsNodeIn, IsInRange, IsPlaceInRange}
use Rattle.ellen.specs.Laws.PairedAccesses.{seen, behind, with_pairs, with_children_paired, replace_node}
use Rattle.ellen.specs.Laws.PairedAppends.{fresh_nodes, internal_grown}
use Rattle.ellen.specs.Laws.Range.{self_paired, whole_in_range}

-- ---- numbers in range

put_in_range : (memory : EllenMem) (k : ℕ) → IsInRange memory → IsInRange (put_in memory k)
put_in_range memory k h =
    let n = length memory.nodes in
    let end = end_of (shapes memory) k n 0 0 in
    let self = self_paired memory [] h (All-nil (λ place. IfSome place (IsPlaceInRange memory))) in
    let p = self.0 in
    let P = IsAmong p.nodes in
    let R = IsAmong p.records in
    let root = self.2.root in
    let ends =
    ends_paired P (shapes memory) (shapes memory) (seen P R memory memory self.2) k n 0 0 0 0 root root in
    let fresh = fresh_nodes memory memory in
    let Q = IsAmong (fresh ++ p.nodes) in
    let more = internal_grown p memory memory k end.leaf end.leaf self.2 ends.1 in
    let grown = with_internal memory k end.leaf in
    let side = side_of k (key_at memory end.parent) in
    let parent = behind fresh p.nodes end.parent end.parent ends.0 in
    let put = with_children_paired Q R side side _ _ _ _ refl (inl (refl, refl)) (more.paired.nodes _ _ parent) in
    (whole_in_range (with_pairs fresh [] p) (put_in memory k) (put_in memory k) [] []
    (rw length-set (more.whole self.1.0), self.1.1)
    (replace_node Q R grown grown end.parent end.parent _ _ more.paired parent put) tt).0

fold_in_range : (keys : List ℕ) (memory : EllenMem) → IsInRange memory → IsInRange (fold put_in memory keys)
fold_in_range [] memory h = h
fold_in_range (key ∷ keys) memory h = fold_in_range keys (put_in memory key) (put_in_range memory key h)

empty_in_range : IsInRange empty_tree
empty_in_range =
    record {
      root = omega arith;
      nodes = All-from_recursion (IsNodeIn 3 0) empty_tree.nodes ((tt, omega arith, omega arith), (tt, (tt, tt)));
      records = λ k d below. absurd (omega arith);
    }

pub initial_in_range : (keys : List ℕ) → IsInRange (initial_memory keys)
initial_in_range keys = fold_in_range keys empty_tree empty_in_range

-- ---- search order

child_is : (s : Side) (x : ℕ) (node : Node) → shape_in (with_child s x node) ≡ over_child s x (shape_in node)
child_is s x (Leaf k) = refl
child_is Left x (Internal k u l r) = refl
child_is Right x (Internal k u l r) = refl

key_is : (node : Node) → key_in node ≡ key_of (shape_in node)
key_is (Leaf k) = refl
key_is (Internal k u l r) = refl

-- the two new leaves and the node over them
abbrev more : ℕ → ℕ → ℕ → List Node
more k j n = Leaf k ∷ Leaf j ∷ internal_over k j n (n + 1) ∷ []

new_leaves : (k j n i x : ℕ) → option_map shape_in (slice_get (more k j n) x) ≡ Some (shape.Leaf i) → (i ≡ k) ⊎ (i ≡ j)
new_leaves k j n i zero e = inl cc
new_leaves k j n i (suc zero) e = inr cc
new_leaves k j n i (suc (suc zero)) e = grind arith
new_leaves k j n i (suc (suc (suc x))) e = cc

puts : (memory : EllenMem) (k : ℕ) → IsPutIn (shapes memory) (shapes (put_in memory k)) k
    (end_of (shapes memory) k (length memory.nodes) 0 0)
puts memory k =
    let n = length memory.nodes in
    let end = end_of (shapes memory) k n 0 0 in
    let j = key_at memory end.leaf in
    put_over (Leaf 0) shape_in key_in with_child key_is child_is memory.nodes (more k j n) k end (n + 1) 2
    (record {
      own = refl;
      over = grind arith;
      beside = inr (1, refl, refl);
      leaves = new_leaves k j n;
    })

grows : (memory : EllenMem) (k : ℕ) → length memory.nodes < length (put_in memory k).nodes
grows memory k = rw (length-set, length-append) (omega arith)

-- ---- the tree with the two sentinels

-- its leaves
sentinels : (x j : ℕ) → shapes empty_tree x ≡ Some (shape.Leaf j) → 101 ≤ j
sentinels zero j e = cc
sentinels (suc zero) j e = let is : 101 ≡ j = cc in omega arith
sentinels (suc (suc zero)) j e = let is : 102 ≡ j = cc in omega arith
sentinels (suc (suc (suc x))) j e = cc

-- user keys are below the sentinels
pub initial_ordered : (keys : List ℕ) → AreInitialKeys keys → KeepsSearchOrder (shapes (initial_memory keys))
initial_ordered keys initial =
    stays_ordered shapes (λ memory. length memory.nodes) put_in puts grows keys empty_tree
    (record {
      ordered = ((omega arith, omega arith), (omega arith, omega arith));
      root_key = 102;
      root_left = 1;
      root_right = 2;
      root = refl;
      absent =
          λ x j is. All-weaker IsUserKey (λ key. key ≢ j)
          (λ key user same. let sentinel = sentinels x j is in omega arith) keys initial.user_keys;
    })
    initial.user_keys initial.distinct
