-- Numbers in a row.
use Rattle.std.proofs.Common.{◌≡◌, ℕ, zero, suc, ◌+◌, [], ◌∷◌, ◌++◌, length, refl, ap, arith, add-one}
use Rattle.tree_machine.specs.Graphs.{numbers_from}

pub length-numbers_from : (a n : ℕ) → length (numbers_from a n) ≡ n
length-numbers_from a zero = refl
length-numbers_from a (suc n) = ap suc (length-numbers_from (suc a) n)

-- one more number
pub numbers_more : (a n : ℕ) → numbers_from a (n + 1) ≡ numbers_from a n ++ (a + n) ∷ []
numbers_more a zero = grind (arith, add-one)
numbers_more a (suc n) = grind (arith, add-one, numbers_more (suc a) n)
