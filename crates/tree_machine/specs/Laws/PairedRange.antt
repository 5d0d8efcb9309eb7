-- What is in range is paired with itself, and what is paired throughout is in range, so that accesses, which keep
-- pairings, keep the numbers in range.
use Rattle.std.specs.Prelude.{◌≡◌, ℕ, zero, suc, ◌<◌, ◌≤◌, List, [], ◌∷◌, ◌++◌, length, Option}
use Rattle.std.specs.Prelude.{Some, None, IfSome, All, refl}
use Rattle.std.specs.List.{AllZip}
use Rattle.std.proofs.Common.{arith, inl, inr, length-append}
use Rattle.std.proofs.lemmas.Bool.{cases_lt}
use Rattle.std.proofs.lemmas.List.Elements.{All-cons, All-from_recursion, All-head, All-nil, All-tail}
use Rattle.std.proofs.lemmas.List.Elements.{recursion_from_All}
use Rattle.sched_program.specs.declared.operation.Op.{Op}
use Rattle.tree_machine.specs.declared.machine.Outcome.{Outcome}
use Rattle.tree_machine.specs.declared.machine.Outcome.TheVariants.{Goes, Replies, Astray}
use Rattle.tree_machine.specs.declared.search_order.End.{End}
use Rattle.tree_machine.specs.declared.search_order.Shape.{Shape}
use Rattle.tree_machine.specs.Cells.{IsPairedOrNone}
use Rattle.tree_machine.specs.Pairing.{Pairing, Extends, IsAmong, IsOneToOne, AreHeldPaired, AreStepsPaired}
use Rattle.tree_machine.specs.Parts.{Part, Parts, part_at, ArePartsPaired, IsPartsPairing, IsPartBelow, ArePartsInRange}
use Rattle.tree_machine.specs.Rules.{Rules, ArePlacesInRange, IsOutcomeInRange}
use Rattle.tree_machine.specs.SearchOrder.{end_of}
use Rattle.tree_machine.specs.Laws.PartCells.{all_parts, part_all}
use Rattle.tree_machine.specs.Laws.SearchOrderPairs.{AreShapesPaired}

-- ---- each number paired with itself

-- each number below n with itself
abbrev pub selves : ℕ → List (ℕ × ℕ)
selves zero = []
selves (suc n) = (n, n) ∷ selves n

self_among : (n x : ℕ) → x < n → IsAmong (selves n) x x
self_among zero x below = absurd (omega arith)
self_among (suc n) x below = grind (arith, self_among n x)

among_self : (n x y : ℕ) → IsAmong (selves n) x y → (x ≡ y) × (x < n)
among_self zero x y h = absurd h
among_self (suc n) x y h = grind (arith, among_self n x y)

selves_one : (n : ℕ) → IsOneToOne (IsAmong (selves n))
selves_one n x y a b p q = grind (arith, among_self n x y p, among_self n a b q)

selves_within : (n x y : ℕ) → IsAmong (selves n) x y → (x < n) × (y < n)
selves_within n x y p = omega (arith, among_self n x y p)

-- ---- parts in range are paired with themselves

abbrev IsBelow : ℕ → Option ℕ → Type 0
IsBelow n o = IfSome o (λ x. x < n)

name_self : (n : ℕ) (o : Option ℕ) → IsBelow n o → IsPairedOrNone (IsAmong (selves n)) o o
name_self n o h = grind (arith, self_among n)

all_self : {A : Type 0} (P : A → A → Type 0) (Q : A → Type 0) → ((a : A) → Q a → P a a) → (xs : List A) → All Q xs
    → AllZip P xs xs
all_self P Q f [] h = tt
all_self P Q f (x ∷ xs) h = (f x (All-head Q x xs h), all_self P Q f xs (All-tail Q x xs h))

module _ (n r : ℕ) where
  part_self : (p : Part) → IsPartBelow n r p → ArePartsPaired (IsAmong (selves n)) (IsAmong (selves r)) p p
  part_self p h = record {
    facts = refl;
    nodes = all_self _ (IsBelow n) (name_self n) p.nodes h.nodes;
    records = all_self _ (IsBelow r) (name_self r) p.records h.records;
  }

  parts_self : (parts : List Part) → All (IsPartBelow n r) parts → (x y : ℕ) → IsAmong (selves (length parts)) x y
      → ArePartsPaired (IsAmong (selves n)) (IsAmong (selves r)) (part_at parts x) (part_at parts y)
  parts_self parts h x y p =
      let same = among_self (length parts) x y p in
      rw (← same.0) (part_self (part_at parts x) (part_all (IsPartBelow n r) parts h x same.1))

pub self_pairing : (fixed : ℕ) (s : Parts) → ArePartsInRange fixed s
    → IsPartsPairing (IsAmong (selves (length s.nodes))) (IsAmong (selves (length s.records))) fixed s s
self_pairing fixed s h =
    let n = length s.nodes in
    let r = length s.records in
    record {
      nodes_one_to_one = selves_one n;
      records_one_to_one = selves_one r;
      fixed_paired = λ x below. let more = h.fixed_in_range in self_among n x (omega arith);
      nodes_in_range = selves_within n;
      records_in_range = selves_within r;
      nodes_paired = parts_self n r s.nodes h.nodes;
      records_paired = parts_self n r s.records h.records;
      held_paired = all_self _ (IsPartBelow n r) (part_self n r) s.held h.held;
    }

-- ---- what is paired throughout is in range

all_left : {A B : Type 0} (P : A → B → Type 0) (Q : A → Type 0) → ((a : A) (b : B) → P a b → Q a) → (xs : List A)
    (ys : List B) → AllZip P xs ys → All Q xs
all_left P Q f [] [] h = All-nil Q
all_left P Q f (x ∷ xs) (y ∷ ys) h = All-cons Q x xs (f x y h.0) (all_left P Q f xs ys h.1)
all_left P Q f _ _ h = absurd h

-- P pairs each place of the list
abbrev pub IsCovered : {A : Type 0} → (ℕ → ℕ → Type 0) → List A → Type 0
IsCovered P xs = (x : ℕ) → x < length xs → (y : ℕ) × P x y

pub selves_cover : {A : Type 0} (xs : List A) → IsCovered (IsAmong (selves (length xs))) xs
selves_cover xs x below = (x, self_among (length xs) x below)

-- the pair of the next place covers what is appended
pub fresh_covers : {A : Type 0} (pairs : List (ℕ × ℕ)) (xs : List A) (a : A) (y : ℕ) → IsCovered (IsAmong pairs) xs
    → IsCovered (IsAmong ((length xs, y) ∷ pairs)) (xs ++ a ∷ [])
fresh_covers pairs xs a y covered x below =
    let more = length-append xs (a ∷ []) in
    elim (cases_lt x (length xs)) [
      | inl lt ↦ let t = covered x lt in (t.0, inr t.1)
      | inr ge ↦ (y, inl (omega arith, refl))
    ]

module _ (P R : ℕ → ℕ → Type 0) (n r : ℕ) (nodes : (x y : ℕ) → P x y → x < n) (records : (x y : ℕ) → R x y → x < r)
  where
    name_in : (Q : ℕ → ℕ → Type 0) (m : ℕ) → ((x y : ℕ) → Q x y → x < m) → (a b : Option ℕ) → IsPairedOrNone Q a b
        → IsBelow m a
    name_in Q m f a b h = grind arith

    part_in : (a b : Part) → ArePartsPaired P R a b → IsPartBelow n r a
    part_in a b h = record {
      nodes = all_left _ (IsBelow n) (name_in P n nodes) a.nodes b.nodes h.nodes;
      records = all_left _ (IsBelow r) (name_in R r records) a.records b.records h.records;
    }

below_all : (n m : ℕ) → ((x : ℕ) → x < n → x < m) → n ≤ m
below_all zero m f = omega arith
below_all (suc n) m f = omega (arith, f n (omega arith))

pub paired_in_range : (P R : ℕ → ℕ → Type 0) (fixed : ℕ) (s t : Parts) → IsPartsPairing P R fixed s t
    → IsCovered P s.nodes → IsCovered R s.records → ArePartsInRange fixed s
paired_in_range P R fixed s t h nodes records =
    let n = length s.nodes in
    let r = length s.records in
    let below : (x y : ℕ) → P x y → x < n = λ x y p. (h.nodes_in_range x y p).0 in
    let beneath : (x y : ℕ) → R x y → x < r = λ x y p. (h.records_in_range x y p).0 in
    record {
      fixed_in_range = below_all fixed n (λ x k. below x x (h.fixed_paired x k));
      nodes =
          all_parts (IsPartBelow n r) s.nodes (λ x k.
          let c = nodes x k in part_in P R n r below beneath _ _ (h.nodes_paired x c.0 c.1));
      records =
          all_parts (IsPartBelow n r) s.records (λ x k.
          let c = records x k in part_in P R n r below beneath _ _ (h.records_paired x c.0 c.1));
      held = all_left _ (IsPartBelow n r) (part_in P R n r below beneath) s.held t.held h.held_paired;
    }

-- ---- where searches end

-- of memories whose paired nodes are seen alike, searches for a key end at paired nodes
module _ (P : ℕ → ℕ → Type 0) (shapes others : ℕ → Option Shape)
    (seen : (x y : ℕ) → P x y → AreShapesPaired P (shapes x) (others y)) (k : ℕ) where
  abbrev AreEndsPaired : End → End → Type 0
  AreEndsPaired a b = P a.parent b.parent × P a.leaf b.leaf

  pub ends_paired : (levels parent above x y : ℕ) → P parent above → P x y
      → AreEndsPaired (end_of shapes k levels parent x) (end_of others k levels above y)
  ends_paired zero parent above x y p q = (p, q)
  ends_paired (suc levels) parent above x y p q = grind (arith, seen x y q, ends_paired levels)

-- ---- accesses

module _ {Place : Type 0} where
  -- the place that an outcome names
  abbrev place_of : Outcome Place → Option Place
  place_of (Goes place) = Some place
  place_of (Replies reply) = None
  place_of Astray = None

module _ {Memory Place : Type 0} where
  -- With IsWhole p memory that p pairs all of the memory: what is in range is paired with itself, what is paired whole
  -- is in range, and accesses keep a pairing whole. So they keep the memory in range, with what the outcome names and
  -- what another thread holds.
  pub act_kept : (rules : Rules Memory Place) (IsWhole : Pairing → Memory → Type 0)
      → ((memory : Memory) (held : List (Option Place)) → rules.IsInRange memory → ArePlacesInRange rules memory held
      → (p : Pairing) × IsWhole p memory × rules.pairs.memories p memory memory
      × AllZip (AreHeldPaired (rules.pairs.places p)) held held)
      → ((p : Pairing) (memory other : Memory) (held others : List (Option Place)) → IsWhole p memory
      → rules.pairs.memories p memory other → AllZip (AreHeldPaired (rules.pairs.places p)) held others
      → rules.IsInRange memory × ArePlacesInRange rules memory held)
      → ((p q : Pairing) (place twin : Place) → Extends p q → rules.pairs.places p place twin
      → rules.pairs.places q place twin)
      → ((op : Op) (p : Pairing) (place twin : Place) (memory other : Memory) → IsWhole p memory
      → rules.pairs.memories p memory other → rules.pairs.places p place twin
      → (s : AreStepsPaired rules.pairs p (rules.act op place memory) (rules.act op twin other))
      × IsWhole s.then (rules.act op place memory).0)
      → (op : Op) (place : Place) (other : Option Place) (memory : Memory) → rules.IsInRange memory
      → rules.IsPlaceInRange memory place → IfSome other (rules.IsPlaceInRange memory)
      → rules.IsInRange (rules.act op place memory).0
      × IsOutcomeInRange rules (rules.act op place memory).0 (rules.act op place memory).1
      × IfSome other (rules.IsPlaceInRange (rules.act op place memory).0)
  act_kept rules IsWhole self_paired whole_in_range extend act_whole op place other memory h at beside =
      let IsIn : Memory → Option Place → Type 0 = λ m held. IfSome held (rules.IsPlaceInRange m) in
      let after = rules.act op place memory in
      let held = Some place ∷ other ∷ [] in
      let self =
      self_paired memory held h (All-from_recursion (IsIn memory) held (at, (beside, tt))) in
      let s = act_whole op self.0 place place memory memory self.1 self.2 self.3.0 in
      let q = s.0.then in
      let now = place_of after.1 ∷ other ∷ [] in
      let kept =
      whole_in_range q after.0 after.0 now now s.1 s.0.memories_paired
      (grind (arith, s.0.outcomes_paired, self.3.1.0, extend self.0 q, s.0.extends)) in
      let places = recursion_from_All (IsIn after.0) now kept.1 in
      grind arith
