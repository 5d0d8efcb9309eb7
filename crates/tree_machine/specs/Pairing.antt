-- Pairings of node numbers and of record numbers, by which two runs differ in nothing but the numbering.
use Rattle.std.specs.Prelude.{◌≡◌, ℕ, ◌↔◌, ◌⊎◌, List, [], ◌∷◌, Option, Some, None}
use Rattle.std.specs.List.{AllZip}
use Rattle.tree_machine.specs.declared.machine.Outcome.{Outcome}
use Rattle.tree_machine.specs.declared.machine.Outcome.TheVariants.{Goes, Replies, Astray}

-- (x, y) is one of the pairs
abbrev pub IsAmong : List (ℕ × ℕ) → ℕ → ℕ → Type 0
IsAmong [] x y = ⊥
IsAmong (p ∷ pairs) x y = ((p.0 ≡ x) × (p.1 ≡ y)) ⊎ IsAmong pairs x y

-- no number is in two of the pairs
abbrev pub IsOneToOne : (ℕ → ℕ → Type 0) → Type 0
IsOneToOne P = (x y a b : ℕ) → P x y → P a b → (x ≡ a) ↔ (y ≡ b)

-- pairs of node numbers, and pairs of record numbers
pub record Pairing : Type 0 where
  pub nodes : List (ℕ × ℕ)
  pub records : List (ℕ × ℕ)

-- q has the pairs of p, and may have more
pub record Extends (p q : Pairing) : Type 0 where
  pub nodes : (x y : ℕ) → IsAmong p.nodes x y → IsAmong q.nodes x y
  pub records : (x y : ℕ) → IsAmong p.records x y → IsAmong q.records x y

-- outcomes of one kind, with paired places or equal replies
abbrev pub AreOutcomesPaired : {Place : Type 0} → (Place → Place → Type 0) → Outcome Place → Outcome Place → Type 0
AreOutcomesPaired P (Goes place) (Goes twin) = P place twin
AreOutcomesPaired P (Replies b) (Replies c) = b ≡ c
AreOutcomesPaired P Astray Astray = Unit {0}
AreOutcomesPaired P _ _ = ⊥

-- both threads are between operations, or their places are paired
abbrev pub AreHeldPaired : {Place : Type 0} → (Place → Place → Type 0) → Option Place → Option Place → Type 0
AreHeldPaired P None None = Unit {0}
AreHeldPaired P (Some place) (Some twin) = P place twin
AreHeldPaired P _ _ = ⊥

-- when a pairing pairs two memories, and two places
pub record Pairs (Memory Place : Type 0) : Type 1 where
  pub memories : Pairing → Memory → Memory → Type 0
  pub places : Pairing → Place → Place → Type 0

-- what two accesses left and what came of them: some pairing that has the pairs of p, and may have more, pairs the
-- memories and the outcomes
pub record AreStepsPaired {Memory Place : Type 0} (pairs : Pairs Memory Place) (p : Pairing)
    (left right : Memory × Outcome Place) : Type 0 where
  pub then : Pairing
  pub extends : Extends p then
  pub memories_paired : pairs.memories then left.0 right.0
  pub outcomes_paired : AreOutcomesPaired (pairs.places then) left.1 right.1

-- some pairing pairs the memories, and what the threads hold one by one
abbrev pub AreAlike : {Memory Place : Type 0} → Pairs Memory Place → Memory → List (Option Place) → Memory
    → List (Option Place) → Type 0
AreAlike pairs memory held other others = (p : Pairing) × pairs.memories p memory other
    × AllZip (AreHeldPaired (pairs.places p)) held others

-- What a step machine owes to its pairings: operations begin at paired places, more pairs pair the places that fewer
-- do, of paired memories both keep search order or neither does, and accesses of paired places to paired memories keep
-- a pairing.
pub record ArePairsLawful {Memory Place Operation : Type 0} (pairs : Pairs Memory Place) (first : Operation → Place)
    (act : Operation → Place → Memory → Memory × Outcome Place) (IsOrdered : Memory → Type 0) : Type 0 where
  pub first_paired : (op : Operation) (p : Pairing) (memory twin : Memory) → pairs.memories p memory twin
      → pairs.places p (first op) (first op)
  pub places_extend : (p q : Pairing) (place twin : Place) → Extends p q → pairs.places p place twin
      → pairs.places q place twin
  pub ordered_paired : (p : Pairing) (memory twin : Memory) → pairs.memories p memory twin → IsOrdered memory
      ↔ IsOrdered twin
  pub act_paired : (op : Operation) (p : Pairing) (place twin : Place) (memory other : Memory)
      → pairs.memories p memory other → pairs.places p place twin
      → AreStepsPaired pairs p (act op place memory) (act op twin other)
