-- Notes are read back from their numbers.
use Rattle.std.proofs.Common.{◌≡◌, ℕ, zero, suc, ◌+◌, ◌*◌, ◌/◌, ◌%◌, ◌^◌, ◌<◌, ◌≤◌, true, List, [], ◌∷◌}
use Rattle.std.proofs.Common.{◌++◌, length, take, refl, arith, get_or}
use Rattle.std.proofs.lemmas.List.{length-take}
use Rattle.std.proofs.lemmas.Bool.Decides.{nat_tests}
use Rattle.tree_machine.specs.Packed.{note_number, counts_in, are_digits, is_short}

-- ---- what a short note is

pub short_parts : (counts : List ℕ) → is_short counts ≡ true → (length counts ≤ 4) × (are_digits counts ≡ true)
short_parts counts h = grind arith

pub short_of : (counts : List ℕ) → length counts ≤ 4 → are_digits counts ≡ true → is_short counts ≡ true
short_of counts bounded digits = grind arith

pub digits_more : (counts : List ℕ) (count : ℕ) → are_digits counts ≡ true → count < 8
    → are_digits (counts ++ count ∷ []) ≡ true
digits_more [] count digits small = grind arith
digits_more (first ∷ counts) count digits small = grind (arith, digits_more counts count)

digits_fewer : (k : ℕ) (counts : List ℕ) → are_digits counts ≡ true → are_digits (take k counts) ≡ true
digits_fewer zero counts digits = refl
digits_fewer (suc k) [] digits = refl
digits_fewer (suc k) (count ∷ counts) digits = grind (arith, digits_fewer k counts)

-- the counts of any number are a short note
pub counts_short : (n : ℕ) → is_short (counts_in n) ≡ true
unfolding counts_in
counts_short n = grind (arith, nat_tests, short_of, length-take, digits_fewer)

-- ---- from a note to its number and back

-- what the number of a note tells: it is below 20480, how many counts there are, and each of them as a digit
abbrev Tells : List ℕ → ℕ → Type 0
Tells counts n = (n < 20480) × (n / 4096 ≡ length counts) × (n % 8 ≡ get_or counts 0 0)
    × (n / 8 % 8 ≡ get_or counts 1 0) × (n / 64 % 8 ≡ get_or counts 2 0) × (n / 512 % 8 ≡ get_or counts 3 0)

number_tells : (counts : List ℕ) → is_short counts ≡ true → Tells counts (note_number counts)
number_tells [] h = omega arith
number_tells (a ∷ []) h = grind (arith, nat_tests)
number_tells (a ∷ b ∷ []) h = grind (arith, nat_tests)
number_tells (a ∷ b ∷ c ∷ []) h = grind (arith, nat_tests)
number_tells (a ∷ b ∷ c ∷ d ∷ []) h = grind (arith, nat_tests)
number_tells (a ∷ b ∷ c ∷ d ∷ e ∷ counts) h = grind (arith, nat_tests)

pub counts_of_number : (counts : List ℕ) → is_short counts ≡ true → counts_in (note_number counts) ≡ counts
unfolding counts_in
counts_of_number [] h = refl
counts_of_number (a ∷ []) h = grind (arith, nat_tests)
counts_of_number (a ∷ b ∷ []) h = grind (arith, nat_tests)
counts_of_number (a ∷ b ∷ c ∷ []) h = grind (arith, nat_tests)
counts_of_number (a ∷ b ∷ c ∷ d ∷ []) h = grind (arith, nat_tests)
counts_of_number (a ∷ b ∷ c ∷ d ∷ e ∷ counts) h = grind (arith, nat_tests)

-- a number with no digit behind its k counts is that of its counts
pub number_of_counts : (n k : ℕ) → n / 4096 ≡ k → n < 20480 → n % 4096 / 2 ^ (3 * k) ≡ 0
    → note_number (counts_in n) ≡ n
unfolding counts_in
number_of_counts n zero count below none = rw count (omega arith)
number_of_counts n (suc zero) count below none = rw count (omega arith)
number_of_counts n (suc (suc zero)) count below none = rw count (omega arith)
number_of_counts n (suc (suc (suc zero))) count below none = rw count (omega arith)
number_of_counts n (suc (suc (suc (suc zero)))) count below none = rw count (omega arith)
number_of_counts n (suc (suc (suc (suc (suc k))))) count below none = absurd (omega arith)

-- what is added for one count more
pub one_count_more : (counts : List ℕ) (count : ℕ) → length counts < 4
    → note_number (counts ++ count ∷ []) ≡ note_number counts + (4096 + count * 2 ^ (3 * length counts))
one_count_more [] count room = omega arith
one_count_more (a ∷ []) count room = omega arith
one_count_more (a ∷ b ∷ []) count room = omega arith
one_count_more (a ∷ b ∷ c ∷ []) count room = omega arith
one_count_more (a ∷ b ∷ c ∷ d ∷ counts) count room = absurd (omega arith)

-- ---- the digits of a number are its counts

pub number_below : (counts : List ℕ) → is_short counts ≡ true → note_number counts < 20480
number_below counts h = (number_tells counts h).0

-- each digit of the number of a note is its count, and none where it has none
pub counts_at : (counts : List ℕ) → is_short counts ≡ true
    → let n = note_number counts in (n % 8 ≡ get_or counts 0 0) × (n / 8 % 8 ≡ get_or counts 1 0)
    × (n / 64 % 8 ≡ get_or counts 2 0) × (n / 512 % 8 ≡ get_or counts 3 0)
counts_at counts h = let t = number_tells counts h in (t.2, t.3, t.4, t.5)

pub length_of_number : (counts : List ℕ) → is_short counts ≡ true → note_number counts / 4096 ≡ length counts
length_of_number counts h = (number_tells counts h).1
