-- Pairs of places in two lists: values that are written or appended on both sides keep them.
use Rattle.std.proofs.Common.{arith, sym, ◌∙◌, inl, inr, length-append, length-set, add-zero}
use Rattle.std.specs.Prelude.{◌≡◌, ℕ, ◌<◌, Bool, cond, nat_eq, List, [], ◌∷◌, ◌++◌, length, slice_get}
use Rattle.std.specs.Prelude.{slice_set, Option, Some, refl}
use Rattle.std.proofs.lemmas.Bool.Decides.{eqb_tells}
use Rattle.tree_machine.specs.Pairing.{IsAmong, IsOneToOne}
use Rattle.tree_machine.specs.Laws.CellSteps.{same_tests}
use Rattle.tree_machine.proofs.Lists.{get_at, get-append_left, get-append_right, get-set_same, get-set_other}

-- ---- numbers that are paired one to one

-- two numbers are the same exactly if those paired with them are
pub same_number : (P : ℕ → ℕ → Type 0) → IsOneToOne P → (x y a b : ℕ) → P x y → P a b → nat_eq x a ≡ nat_eq y b
same_number P one x y a b p q = same_tests x y a b (one x y a b p q)

-- of paired values, equal tests choose paired ones
pub choices_paired : {A : Type 0} (R : A → A → Type 0) (b c : Bool) (x y u v : A) → b ≡ c → R x u → R y v
    → R (cond b x y) (cond c u v)
choices_paired R b c x y u v e h k = grind arith

abbrev pub AreWithin : {A : Type 0} → (ℕ → ℕ → Type 0) → List A → List A → Type 0
AreWithin P xs ys = (x y : ℕ) → P x y → (x < length xs) × (y < length ys)

-- T of the values at places that P pairs
abbrev pub AreValuesPaired : {A : Type 0} → (ℕ → ℕ → Type 0) → (Option A → Option A → Type 0) → List A → List A
    → Type 0
AreValuesPaired P T xs ys = (x y : ℕ) → P x y → T (slice_get xs x) (slice_get ys y)

-- values that are there are paired in another way
pub paired_as : {A : Type 0} (T S : Option A → Option A → Type 0) (xs ys : List A) (x y : ℕ)
    → (x < length xs) × (y < length ys) → ((a b : A) → T (Some a) (Some b) → S (Some a) (Some b))
    → T (slice_get xs x) (slice_get ys y) → S (slice_get xs x) (slice_get ys y)
paired_as T S xs ys x y r to h =
    let s = get_at xs x r.0 in
    let t = get_at ys y r.1 in
    rw (s.1, t.1) (to s.0 t.0 (rw (s.1, t.1) at h))

-- ---- a value is written on both sides

module _ {A : Type 0} (P : ℕ → ℕ → Type 0) (xs ys : List A) (x y : ℕ) (a b : A) where
  pub within_set : AreWithin P xs ys → AreWithin P (slice_set xs x a) (slice_set ys y b)
  within_set within v w p = simp length-set (within v w p)

  pub paired_set : (T : Option A → Option A → Type 0) → IsOneToOne P → AreWithin P xs ys → P x y → T (Some a) (Some b)
      → AreValuesPaired P T xs ys → AreValuesPaired P T (slice_set xs x a) (slice_set ys y b)
  paired_set T one within at new old v w p = grind (arith, eqb_tells, get-set_same, get-set_other)

-- ---- a value is appended on both sides, and their places are paired

get_front : {A : Type 0} (xs more : List A) (x : ℕ) → x < length xs → slice_get (xs ++ more) x ≡ slice_get xs x
get_front xs more x below = let t = get_at xs x below in get-append_left xs more x t.0 t.1 ∙ sym t.1

get_last : {A : Type 0} (xs : List A) (a : A) → slice_get (xs ++ a ∷ []) (length xs) ≡ Some a
get_last xs a = rw add-zero at (get-append_right xs (a ∷ []) 0 a refl)

module _ {A : Type 0} (pairs : List (ℕ × ℕ)) (xs ys : List A) (within : AreWithin (IsAmong pairs) xs ys) where
  -- the pair of the next places
  abbrev pub Fresh : ℕ → ℕ → Type 0
  Fresh = IsAmong ((length xs, length ys) ∷ pairs)

  pub fresh_one : IsOneToOne (IsAmong pairs) → IsOneToOne Fresh
  fresh_one one x y v w (inl e) (inl f) = (λ d. sym e.1 ∙ f.1, λ d. sym e.0 ∙ f.0)
  fresh_one one x y v w (inl e) (inr q) = grind arith
  fresh_one one x y v w (inr p) (inl e) = grind arith
  fresh_one one x y v w (inr p) (inr q) = one x y v w p q

  module _ (a b : A) where
    pub fresh_within : AreWithin Fresh (xs ++ a ∷ []) (ys ++ b ∷ [])
    fresh_within x y (inl e) = simp length-append (omega arith, omega arith)
    fresh_within x y (inr p) = let r = within x y p in simp length-append (omega arith, omega arith)

    pub fresh_paired : (T : Option A → Option A → Type 0) → T (Some a) (Some b)
        → AreValuesPaired (IsAmong pairs) T xs ys → AreValuesPaired Fresh T (xs ++ a ∷ []) (ys ++ b ∷ [])
    fresh_paired T new old x y (inl e) = grind (arith, get_last)
    fresh_paired T new old x y (inr p) = grind (arith, get_front)
