-- The tests of numbers, of truth values, of options and of lists hold of equal values alone.
use Rattle.std.specs.Prelude.{◌≡◌, Bool, true, false, nat_eq, [], ◌∷◌, Some, None, refl}
use Rattle.std.specs.Option.{option_eq}
use Rattle.std.specs.Cmp.Lexicographic.{pointwise}
use Rattle.std.proofs.Common.{ap}
use Rattle.std.proofs.lemmas.Bool.{eqb-true}
pub use Rattle.std.proofs.lemmas.Bool.{and_parts as both}
use mathlib.Core.Bool.{beq}
use Rattle.sched_program.specs.Exact.{IsExact}

pub nat_exact : IsExact nat_eq
nat_exact = eqb-true

pub bool_exact : IsExact beq
bool_exact true true h = refl
bool_exact false false h = refl
bool_exact a b h = cc

module _ {A : Type 0} {E : A → A → Bool} (exact : IsExact E) where
  pub option_exact : IsExact (option_eq E)
  option_exact None None h = refl
  option_exact (Some a) (Some b) h = ap Some (exact a b h)
  option_exact a b h = cc

  pub list_exact : IsExact (pointwise E)
  list_exact [] [] h = refl
  list_exact (a ∷ rest) (b ∷ others) h =
      let pieces = both (E a b) (pointwise E rest others) h in
      let head : a ≡ b = exact a b pieces.0 in
      let tail : rest ≡ others = list_exact rest others pieces.1 in
      cc
  list_exact a b h = cc
