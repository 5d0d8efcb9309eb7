-- Replies and notes as numbers of one byte and of two.
use Rattle.std.specs.Prelude.{ℕ, zero, suc, ◌+◌, ◌*◌, ◌/◌, ◌%◌, ◌&&◌, Bool, true, if◌then◌else◌, nat_le, nat_lt}
use Rattle.std.specs.Prelude.{nat_eq, List, [], ◌∷◌, length, take}

-- replies as the binary digits of a number, the first one lowest, below a leading one
abbrev pub replies_number : List Bool → ℕ
replies_number [] = 1
replies_number (reply ∷ replies) = (if reply then 1 else 0) + 2 * replies_number replies

-- the binary digits of a number below its leading one, at most this many
abbrev pub digits_of : ℕ → ℕ → List Bool
digits_of zero number = []
digits_of (suc most) number = if nat_le number 1 then [] else nat_eq (number % 2) 1 ∷ digits_of most (number / 2)

-- the replies, six at most, that have this number
unfoldable pub replies_in : ℕ → List Bool
replies_in number = digits_of 6 number

-- counts as the octal digits of a number, the first one lowest
abbrev pub octal : List ℕ → ℕ
octal [] = 0
octal (count ∷ counts) = count + 8 * octal counts

-- a note of at most four counts: how many there are, above four octal digits
abbrev pub note_number : List ℕ → ℕ
note_number counts = 4096 * length counts + octal counts

-- the counts, four at most, that have this number
unfoldable pub counts_in : ℕ → List ℕ
counts_in number =
    take (number / 4096) (number % 8 ∷ number / 8 % 8 ∷ number / 64 % 8 ∷ number / 512 % 8 ∷ [])

-- whether all counts are octal digits
abbrev pub are_digits : List ℕ → Bool
are_digits [] = true
are_digits (count ∷ counts) = nat_lt count 8 && are_digits counts

-- whether a note is one of at most four counts that are octal digits
abbrev pub is_short : List ℕ → Bool
is_short counts = nat_le (length counts) 4 && are_digits counts
