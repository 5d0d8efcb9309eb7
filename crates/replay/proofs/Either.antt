-- One thing or another.
use Rattle.std.proofs.Common.{◌≡◌, ◌⊎◌, inl, inr}

-- it holds of one at most
abbrev pub AtMostOne : {F : Type 0} → (F → Type 0) → Type 0
AtMostOne {F} P = (f g : F) → P f → P g → f ≡ g

-- so does either of two that exclude each other
pub one_of_either : {F : Type 0} {P Q : F → Type 0} → AtMostOne P → AtMostOne Q → ((f g : F) → P f → Q g → ⊥)
    → AtMostOne (λ f. P f ⊎ Q f)
one_of_either one other apart f g (inl a) (inl b) = one f g a b
one_of_either one other apart f g (inl a) (inr b) = absurd (apart f g a b)
one_of_either one other apart f g (inr a) (inl b) = absurd (apart g f b a)
one_of_either one other apart f g (inr a) (inr b) = other f g a b
