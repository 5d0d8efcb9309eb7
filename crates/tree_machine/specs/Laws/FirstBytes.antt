-- The first bytes one by one, and those behind them.
use Rattle.std.proofs.Common.{◌≡◌, ℕ, ◌-◌, ◌≤◌, List, ◌∷◌, length, take, drop, get_or, ap, sym, arith}
use Rattle.std.proofs.lemmas.List.{take_all}

pub first_two : (bytes : List ℕ) → 2 ≤ length bytes
    → bytes ≡ get_or bytes 0 0 ∷ get_or bytes 1 0 ∷ take (length bytes - 2) (drop 2 bytes)
first_two (a ∷ b ∷ rest) h = ap (λ l. a ∷ b ∷ l) (sym (take_all _ rest (omega arith)))
first_two _ h = absurd (omega arith)

pub first_four : (bytes : List ℕ) → 4 ≤ length bytes
    → bytes ≡ get_or bytes 0 0 ∷ get_or bytes 1 0 ∷ get_or bytes 2 0 ∷ get_or bytes 3 0
    ∷ take (length bytes - 4) (drop 4 bytes)
first_four (a ∷ b ∷ c ∷ d ∷ rest) h = ap (λ l. a ∷ b ∷ c ∷ d ∷ l) (sym (take_all _ rest (omega arith)))
first_four _ h = absurd (omega arith)

pub first_five : (bytes : List ℕ) → 5 ≤ length bytes
    → bytes ≡ get_or bytes 0 0 ∷ get_or bytes 1 0 ∷ get_or bytes 2 0 ∷ get_or bytes 3 0 ∷ get_or bytes 4 0
    ∷ take (length bytes - 5) (drop 5 bytes)
first_five (a ∷ b ∷ c ∷ d ∷ e ∷ rest) h = ap (λ l. a ∷ b ∷ c ∷ d ∷ e ∷ l) (sym (take_all _ rest (omega arith)))
first_five _ h = absurd (omega arith)

pub first_six : (bytes : List ℕ) → 6 ≤ length bytes
    → bytes ≡ get_or bytes 0 0 ∷ get_or bytes 1 0 ∷ get_or bytes 2 0 ∷ get_or bytes 3 0 ∷ get_or bytes 4 0
    ∷ get_or bytes 5 0 ∷ take (length bytes - 6) (drop 6 bytes)
first_six (a ∷ b ∷ c ∷ d ∷ e ∷ f ∷ rest) h = ap (λ l. a ∷ b ∷ c ∷ d ∷ e ∷ f ∷ l) (sym (take_all _ rest (omega arith)))
first_six _ h = absurd (omega arith)

pub first_seven : (bytes : List ℕ) → 7 ≤ length bytes
    → bytes ≡ get_or bytes 0 0 ∷ get_or bytes 1 0 ∷ get_or bytes 2 0 ∷ get_or bytes 3 0 ∷ get_or bytes 4 0
    ∷ get_or bytes 5 0 ∷ get_or bytes 6 0 ∷ take (length bytes - 7) (drop 7 bytes)
first_seven (a ∷ b ∷ c ∷ d ∷ e ∷ f ∷ g ∷ rest) h = grind (arith, take_all)
first_seven _ h = absurd (omega arith)
