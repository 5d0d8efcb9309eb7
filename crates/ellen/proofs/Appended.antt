-- What was appended is found again.
use Rattle.std.proofs.Common.{◌≡◌, ℕ, suc, ◌+◌, true, false, List, [], ◌∷◌, ◌++◌, length, refl, arith}
use Rattle.std.specs.Prelude.{Some, slice_get, nat_lt}
use Rattle.ellen.specs.Types.{EllenMem}
use Rattle.ellen.specs.Memory.{key_at, internal_over, with_internal, new_internal}

get_third : {A : Type 0} (xs : List A) (a b c : A) → slice_get (xs ++ a ∷ b ∷ c ∷ []) (length xs + 2) ≡ Some c
get_third [] a b c = refl
get_third (x ∷ xs) a b c =
    let e : suc (length xs) + 2 ≡ suc (length xs + 2) = omega arith in
    rw e (get_third xs a b c)

made : (memory : EllenMem) (k l : ℕ) → slice_get (with_internal memory k l).nodes (new_internal memory)
    ≡ Some (internal_over k (key_at memory l) (length memory.nodes) (length memory.nodes + 1))
made memory k l = get_third memory.nodes _ _ _

pub key_of_leaf : (memory : EllenMem) (k l : ℕ) → nat_lt k (key_at memory l) ≡ true
    → key_at memory l ≡ key_at (with_internal memory k l) (new_internal memory)
key_of_leaf memory k l h = rw (made memory k l, h) refl

pub key_of_new : (memory : EllenMem) (k l : ℕ) → nat_lt k (key_at memory l) ≡ false
    → k ≡ key_at (with_internal memory k l) (new_internal memory)
key_of_new memory k l h = rw (made memory k l, h) refl
