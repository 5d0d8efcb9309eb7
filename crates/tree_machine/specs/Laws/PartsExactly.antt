-- What is said of a value is said of its part, and the other way round.
use Rattle.std.specs.Prelude.{◌≡◌, ◌↔◌, ℕ, ◌<◌, Option, Some, None, IfSome}
use Rattle.std.specs.List.{AllByRecursion, AllZip}
use Rattle.std.proofs.lemmas.List.Elements.{All-from_recursion, recursion_from_All}
use Rattle.tree_machine.specs.Cells.{IsPairedOrNone}
use Rattle.tree_machine.specs.Laws.Cells.{AllZip-weaker}
use Rattle.tree_machine.specs.Parts.{Part, ArePartsPaired, IsPartBelow}

-- values are paired exactly if the facts of their parts are equal and what these name is paired
pub paired_exactly : {T : Type 0} (P R : ℕ → ℕ → Type 0) (a b : Part)
    → (T → (a.facts ≡ b.facts) × AllZip (IsPairedOrNone P) a.nodes b.nodes
    × AllZip (IsPairedOrNone R) a.records b.records)
    → (a.facts ≡ b.facts → AllZip (IsPairedOrNone P) a.nodes b.nodes → AllZip (IsPairedOrNone R) a.records b.records
    → T)
    → T ↔ ArePartsPaired P R a b
paired_exactly P R a b to back = (
  (λ h. let t = to h in record { facts = t.0; nodes = t.1; records = t.2 }),
  (λ h. back h.facts h.nodes h.records),
)

-- the numbers of a value are in range exactly if those that its part names are, one by one
pub in_range_exactly : {T : Type 0} (n m : ℕ) (p : Part)
    → (T → AllByRecursion (λ x. IfSome x (λ y. y < n)) p.nodes
    × AllByRecursion (λ x. IfSome x (λ y. y < m)) p.records)
    → (AllByRecursion (λ x. IfSome x (λ y. y < n)) p.nodes → AllByRecursion (λ x. IfSome x (λ y. y < m)) p.records
    → T)
    → T ↔ IsPartBelow n m p
in_range_exactly n m p to back = (
  (λ h. record { nodes = All-from_recursion _ p.nodes (to h).0; records = All-from_recursion _ p.records (to h).1 }),
  (λ h. back (recursion_from_All _ p.nodes h.nodes) (recursion_from_All _ p.records h.records)),
)

-- more pairs pair the parts that fewer do
module _ (P Q : ℕ → ℕ → Type 0) (f : (x y : ℕ) → P x y → Q x y) where
  name_weaker : (a b : Option ℕ) → IsPairedOrNone P a b → IsPairedOrNone Q a b
  name_weaker None None h = h
  name_weaker (Some x) (Some y) h = f x y h
  name_weaker _ _ h = absurd h

pub parts_weaker : (P Q R S : ℕ → ℕ → Type 0) → ((x y : ℕ) → P x y → Q x y) → ((x y : ℕ) → R x y → S x y)
    → (a b : Part) → ArePartsPaired P R a b → ArePartsPaired Q S a b
parts_weaker P Q R S f g a b h =
    record {
      facts = h.facts;
      nodes = AllZip-weaker _ _ (name_weaker P Q f) a.nodes b.nodes h.nodes;
      records = AllZip-weaker _ _ (name_weaker R S g) a.records b.records h.records;
    }
