-- What the types of replies and notes in bytes promise.
use Rattle.std.proofs.Common.{◌≡◌, ℕ, ◌+◌, ◌*◌, ◌/◌, ◌%◌, ◌^◌, ◌<◌, ◌≤◌, List, [], ◌∷◌, ◌++◌, length, refl, sym, ◌∙◌}
use Rattle.std.proofs.Common.{ap, ap₂, true, zero, suc, arith, eq-eqb, eqb-true, get_or, length-append, Bool, nat_eq}
use Rattle.std.specs.Cmp.{bool_eq_equiv}
use Rattle.std.specs.Cmp.Lexicographic.{pointwise}
use Rattle.std.proofs.lemmas.Cmp.{lists_equiv, nat_eq_equiv}
use Rattle.std.proofs.lemmas.List.{get_or_past}
use Rattle.std.proofs.lemmas.Nat.{shl_whole}
use Rattle.sched_program.specs.Laws.Exact.{bool_exact, nat_exact, list_exact}
use Rattle.tree_machine.specs.Flat.{number_code}
use Rattle.tree_machine.specs.FormCode.{note_code, replies_code}
use Rattle.tree_machine.specs.Laws.SmallCodes.{small_code}
use Rattle.std.proofs.lemmas.Nat.Bits.{shr_and_one}
use Rattle.tree_machine.specs.Laws.Packed.{replies_back, reply_at}
use Rattle.tree_machine.specs.Laws.ShortNotes.{counts_short, counts_of_number, counts_at, digits_more, number_of_counts}
use Rattle.tree_machine.specs.Laws.ShortNotes.{length_of_number, number_below, one_count_more, short_of, short_parts}
use Rattle.tree_machine.specs.Laws.StateExact.{same_answer}
use Rattle.tree_machine.specs.Packed.{counts_in, is_short, note_number, replies_in, replies_number}
use mathlib.Core.Bool.{beq}

module _ {A : Type 0} (eq : A → A → Bool) (same : (xs : List A) → pointwise eq xs xs ≡ true)
    (exact : (xs ys : List A) → pointwise eq xs ys ≡ true → xs ≡ ys) (read : ℕ → List A) (number : List A → ℕ) where
  read_same : (n m : ℕ) → number (read n) ≡ n → number (read m) ≡ m → nat_eq n m ≡ pointwise eq (read n) (read m)
  read_same n m n_whole m_whole = grind (arith, same_answer, nat_eq, eqb-true, eq-eqb)

-- numbers are equal where the replies are
pub replies_same : (n m : ℕ) → 0 < n → n < 128 → 0 < m → m < 128
    → nat_eq n m ≡ pointwise beq (replies_in n) (replies_in m)
replies_same n m n_least n_below m_least m_below =
    read_same beq (lists_equiv bool_eq_equiv).refl (list_exact bool_exact) replies_in replies_number n m
    (replies_back n n_least n_below) (replies_back m m_least m_below)

pub notes_same : (n m : ℕ) → note_number (counts_in n) ≡ n → note_number (counts_in m) ≡ m
    → nat_eq n m ≡ pointwise nat_eq (counts_in n) (counts_in m)
notes_same = read_same nat_eq (lists_equiv nat_eq_equiv).refl (list_exact nat_exact) counts_in note_number

-- the byte of a number is the code of its replies
pub code_of_replies : (n : ℕ) → 0 < n → n < 128 → replies_code (replies_in n) ≡ n ∷ []
unfolding replies_code
code_of_replies n least below = ap number_code (replies_back n least below) ∙ small_code n (omega arith)

-- the two bytes of a number are the code of its note
pub code_of_number : (n : ℕ) → note_number (counts_in n) ≡ n → note_code (counts_in n) ≡ n / 256 ∷ n % 256 ∷ []
unfolding note_code
code_of_number n whole = rw (counts_short n, whole) refl

module _ {n : ℕ} {counts : List ℕ} (whole : note_number (counts_in n) ≡ n) (is : counts_in n ≡ counts) where
  is_number : n ≡ note_number counts
  is_number = sym whole ∙ ap note_number is

  are_short : is_short counts ≡ true
  are_short = rw is at (counts_short n)

  pub length_is : n / 4096 ≡ length counts
  length_is = ap (λ k. k / 4096) is_number ∙ length_of_number counts are_short

  pub four_at_most : length counts ≤ 4
  four_at_most = (short_parts counts are_short).0

  pub digits_are : (n % 8 ≡ get_or counts 0 0) × (n / 8 % 8 ≡ get_or counts 1 0) × (n / 64 % 8 ≡ get_or counts 2 0)
      × (n / 512 % 8 ≡ get_or counts 3 0)
  digits_are = rw is_number (counts_at counts are_short)

  -- the count of a thread: 0 for one that the program does not have
  pub digit_at : (t : ℕ) → t < 4 → n / 2 ^ (3 * t) % 8 ≡ get_or counts t 0
  digit_at zero bounded = let digit = digits_are.0 in omega arith
  digit_at (suc zero) bounded = digits_are.1
  digit_at (suc (suc zero)) bounded = digits_are.2
  digit_at (suc (suc (suc zero))) bounded = digits_are.3
  digit_at (suc (suc (suc (suc t)))) bounded = absurd (omega arith)

  pub none_at : (t : ℕ) → 4 ≤ t → 0 ≡ get_or counts t 0
  none_at t many = sym (get_or_past counts t 0 (omega (arith, four_at_most)))

  -- one count more
  module _ {count k : ℕ} (room : length counts < 4) (small : count < 8) (same : k ≡ count) where
    abbrev longer : ℕ
    longer = n + (4096 + k * 2 ^ (3 * (n / 4096)) % 65536)

    longer_is : longer ≡ note_number (counts ++ count ∷ [])
    longer_is =
        let moved : k * 2 ^ (3 * (n / 4096)) % 65536 ≡ count * 2 ^ (3 * length counts) =
        rw (same, ← length_is) (shl_whole count 3 (3 * (n / 4096)) 16 small (omega (arith, length_is, room))) in
        ap₂ (λ k m. k + (4096 + m)) is_number moved ∙ sym (one_count_more counts count room)

    longer_short : is_short (counts ++ count ∷ []) ≡ true
    longer_short = grind (arith, short_of, length-append, digits_more, short_parts, are_short)

    pub count_pushed : counts_in longer ≡ counts ++ count ∷ []
    count_pushed = ap counts_in longer_is ∙ counts_of_number (counts ++ count ∷ []) longer_short

    pub longer_below : longer < 20480
    longer_below = rw longer_is (number_below (counts ++ count ∷ []) longer_short)

    pub longer_whole : note_number (counts_in longer) ≡ longer
    longer_whole = ap note_number count_pushed ∙ sym longer_is

-- what a note is to which a count is added
pub ruleset note_push = (count_pushed, longer_below, longer_whole)

-- what is read
pub ruleset note_read = (code_of_number, number_of_counts)

pub ruleset reply_got = (reply_at, shr_and_one)
