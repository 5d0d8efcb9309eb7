-- Cells met, by the numbers that refer to them.
use Rattle.std.specs.Prelude.{ℕ, zero, suc, List, map, Option, None, Some}
use Rattle.tree_machine.specs.Cells.{HasPlaces}

-- the place that a number refers to, if it refers to one
abbrev pub referred_to : ℕ → Option ℕ
referred_to zero = None
referred_to (suc place) = Some place

-- each cell has the number that refers to its place in the order, or 0 where it has none
abbrev pub HasNumbers : List ℕ → List ℕ → Type 0
HasNumbers order numbers = HasPlaces order (map referred_to numbers)
