-- Replies and notes are read back from their numbers.
use Rattle.std.proofs.Common.{◌≡◌, ℕ, zero, suc, ◌+◌, ◌*◌, ◌/◌, ◌^◌, ◌<◌, ◌≤◌, Bool, List}
use Rattle.std.proofs.Common.{[], ◌∷◌, ◌++◌, length, refl, arith, length-append}
use Rattle.std.specs.Prelude.{nat_eq, slice_get, Some, if◌then◌else◌}
use Rattle.std.specs.Int.{bit_at}
use Rattle.std.proofs.Math.Nat.{two-pow-succ}
use Rattle.std.proofs.Math.Pow.{pow_mono}
use Rattle.std.proofs.lemmas.Nat.{pow_pos}
use Rattle.std.proofs.lemmas.Nat.Bits.{bit_at_lowest, bit_at-suc}
use Rattle.tree_machine.specs.Packed.{replies_number, digits_of, replies_in}

pub replies_least : (replies : List Bool) → 0 < replies_number replies
replies_least [] = omega arith
replies_least (reply ∷ replies) = omega (arith, replies_least replies)

-- ---- from a number to its replies and back

-- a number with at most this many digits below its leading one is that of its digits
pub number_of_digits : (most n : ℕ) → 0 < n → n < 2 * 2 ^ most → replies_number (digits_of most n) ≡ n
number_of_digits zero n least below = omega arith
number_of_digits (suc most) n least below =
    grind (arith, two-pow-succ most, number_of_digits most (n / 2))

pub digits_of_number : (most : ℕ) (replies : List Bool) → length replies ≤ most
    → digits_of most (replies_number replies) ≡ replies
digits_of_number zero [] bounded = refl
digits_of_number zero (reply ∷ replies) bounded = absurd (omega arith)
digits_of_number (suc most) [] bounded = refl
digits_of_number (suc most) (reply ∷ replies) bounded =
    grind (arith, replies_least replies, digits_of_number most replies)

-- ---- how many there are, and each of them

-- a number from 2 ^ k on and below 2 * 2 ^ k has k digits below its leading one
pub digits_length : (most k n : ℕ) → k ≤ most → 2 ^ k ≤ n → n < 2 * 2 ^ k → length (digits_of most n) ≡ k
digits_length zero k n bounded reaches below = omega arith
digits_length (suc most) zero n bounded reaches below = grind arith
digits_length (suc most) (suc k) n bounded reaches below =
    grind (arith, digits_length most k (n / 2), two-pow-succ k, pow_pos k)

-- each digit of a number is one of its bits
pub digit_at : (most n i : ℕ) → i < length (digits_of most n)
    → slice_get (digits_of most n) i ≡ Some (nat_eq (bit_at n i) 1)
digit_at zero n i within = absurd (omega arith)
digit_at (suc most) n zero within = grind (arith, bit_at_lowest)
digit_at (suc most) n (suc i) within = grind (arith, bit_at-suc, digit_at most (n / 2) i)

-- ---- one more reply

pub one_reply_more : (replies : List Bool) (reply : Bool)
    → replies_number (replies ++ reply ∷ [])
    ≡ replies_number replies + (if reply then 2 * 2 ^ length replies else 2 ^ length replies)
one_reply_more [] reply = grind arith
one_reply_more (first ∷ replies) reply = grind (arith, one_reply_more replies reply, two-pow-succ (length replies))

pub replies_below : (replies : List Bool) → replies_number replies < 2 * 2 ^ length replies
replies_below [] = omega arith
replies_below (reply ∷ replies) = grind (arith, replies_below replies, two-pow-succ (length replies))

-- ---- six replies at most

pub replies_back : (n : ℕ) → 0 < n → n < 128 → replies_number (replies_in n) ≡ n
unfolding replies_in
replies_back n least below = number_of_digits 6 n least below

pub replies_length : (k n : ℕ) → k ≤ 6 → 2 ^ k ≤ n → n < 2 * 2 ^ k → length (replies_in n) ≡ k
unfolding replies_in
replies_length k n bounded reaches below = digits_length 6 k n bounded reaches below

pub reply_at : (n i : ℕ) → i < length (replies_in n) → slice_get (replies_in n) i ≡ Some (nat_eq (bit_at n i) 1)
unfolding replies_in
reply_at n i within = digit_at 6 n i within

-- a number of replies reaches no seventh power
pub power_bounded : (k n : ℕ) → 2 ^ k ≤ n → n < 128 → k ≤ 6
power_bounded k n reaches below = let power : 7 ≤ k → 2 ^ 7 ≤ 2 ^ k = pow_mono in grind (arith, power)

-- a reply is appended to those of a number, and the sum is that of replies
pub pushed : (n more count : ℕ) (reply : Bool) (old : List Bool) → replies_in n ≡ old → 0 < n → n < 128
    → length old < 6 → count ≡ length old → more ≡ (if reply then 2 * 2 ^ count else 2 ^ count)
    → (n + more < 128) × (replies_in (n + more) ≡ old ++ reply ∷ [])
unfolding replies_in
pushed n more count reply old is least below bounded counted added =
    let now = old ++ reply ∷ [] in
    let longer : length now ≤ 6 = omega (arith, length-append old (reply ∷ [])) in
    let power : 2 ^ length now ≤ 64 = pow_mono longer in
    grind (arith, one_reply_more old reply, replies_back n least below, replies_below now, digits_of_number 6 now)
