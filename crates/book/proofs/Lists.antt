-- Lists that grow.
use Rattle.std.proofs.Common.{◌≡◌, ℕ, zero, suc, inl, inr, None, Some, List, [], ◌∷◌, ◌++◌, map, refl, ap, slice_get}
use Rattle.std.proofs.Common.{subst}
use Rattle.tree_machine.proofs.Lists.{get-append_cases}

pub map-map : {X Y Z : Type 0} (f : Y → Z) (g : X → Y) (xs : List X) → map f (map g xs) ≡ map (λ x. f (g x)) xs
map-map f g [] = refl
map-map f g (x ∷ xs) = ap (λ ys. f (g x) ∷ ys) (map-map f g xs)

-- what a list of one has is that one
pub get-single : {X : Type 0} (x : X) (k : ℕ) (y : X) → slice_get (x ∷ []) k ≡ Some y → (k ≡ 0) × (x ≡ y)
get-single x zero y h = (refl, cc)
get-single x (suc k) y h = absurd (let q : None ≡ Some y = h in cc)

-- what is so of each element, and of one put behind them, is so of each of all
pub all_pushed : {X : Type 0} (P : X → Type 0) (xs : List X) (x : X)
    → ((k : ℕ) (y : X) → slice_get xs k ≡ Some y → P y) → P x
    → (k : ℕ) (y : X) → slice_get (xs ++ x ∷ []) k ≡ Some y → P y
all_pushed P xs x old own k y h = elim (get-append_cases xs (x ∷ []) k y h) [
  | inl l ↦ old k y l
  | inr o ↦ subst P (get-single x o.0 y o.2).1 own
]
