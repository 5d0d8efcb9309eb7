-- The number that digits are, read from the first on.
use Rattle.std.proofs.Common.{◌≡◌, ℕ, ◌+◌, ◌-◌, ◌*◌, ◌<◌, ◌≤◌, ◌⊎◌, min, List, length, get_or, take, refl, arith}
use Rattle.std.proofs.Common.{inl, inr}
use Rattle.std.proofs.lemmas.List.{take_all}
use Rattle.std.proofs.lemmas.Str.{digit_value_digit}
use Rattle.std.proofs.lemmas.Str.Parse.{digit_at}
use Rattle.std.proofs.lemmas.Int.Digits.{digits_value_more, digits_more}
use Rattle.std.specs.Char.{digit_value}
use Rattle.std.specs.Str.Parse.{AllDigits, digits_value}
use Rattle.replay.specs.Text.Files.{IsNumber}

-- the first bytes of the text are digits, and the value is their number, or the most where that is greater
pub record HasRead (text : List ℕ) (i value most : ℕ) : Type 0 where
  pub digits : AllDigits 10 (take i text)
  pub is : value ≡ min (digits_value 10 (take i text)) most

pub read_digit : {text : List ℕ} {i value most next : ℕ} → HasRead text i value most → i < length text
    → 48 ≤ get_or text i 0 → get_or text i 0 ≤ 57 → next ≡ min (value * 10 + (get_or text i 0 - 48)) most
    → HasRead text (i + 1) next most
read_digit {text} {i} has less low high step =
    let digit : digit_value (get_or text i 0) ≡ get_or text i 0 - 48 =
    omega (arith, digit_value_digit (get_or text i 0) (low, high)) in
    record {
      digits = digits_more 10 text i less has.digits (omega arith);
      is = omega (arith, has.is, digits_value_more 10 text i less);
    }

pub read_number : {text : List ℕ} {i value most : ℕ} → HasRead text i value most → length text ≤ i → 1 ≤ length text
    → (get_or text 0 0 ≡ 48 → length text ≡ 1)
    → (number : ℕ) × IsNumber text number × (value ≡ min number most)
read_number {text} {i} has all some first =
    let whole : take i text ≡ text = take_all i text all in (
      digits_value 10 text,
      record { digits = (omega arith, rw whole at has.digits); no_leading_zero = first; value = refl },
      rw whole at has.is,
    )

-- a text with another byte is no number
pub no_number : (text : List ℕ) (i : ℕ) → i < length text → (get_or text i 0 < 48) ⊎ (57 < get_or text i 0)
    → (number : ℕ) → ¬ IsNumber text number
no_number text i less (inl low) number is = let range = digit_at text i is.digits.1 less in omega arith
no_number text i less (inr high) number is = let range = digit_at text i is.digits.1 less in omega arith
