-- Numbers that are one byte each.
use Rattle.std.proofs.Common.{◌≡◌, ℕ, ◌<◌, [], ◌∷◌, arith}
use Rattle.tree_machine.specs.Flat.{number_code}

-- a number below 255 is one byte
pub small_code : (n : ℕ) → n < 255 → number_code n ≡ n ∷ []
small_code n bounded = grind arith
