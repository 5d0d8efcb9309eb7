-- What the tests of marks say.
use Rattle.std.proofs.Common.{◌≡◌, ◌≢◌, true, false, not, refl, sym, true≢false}
use Rattle.std.proofs.lemmas.Bool.{false_from_ne_true, not-false, not_from_false}
use Rattle.book.specs.Entries.{Mark, Open, Taken, Expanded, is_open, is_taken, is_expanded}

-- ---- from a test to the mark

pub open_from : (k : Mark) → is_open k ≡ true → k ≡ Open
open_from Open h = refl
open_from Taken h = absurd (true≢false (sym h))
open_from Expanded h = absurd (true≢false (sym h))

pub taken_from : (k : Mark) → is_taken k ≡ true → k ≡ Taken
taken_from Open h = absurd (true≢false (sym h))
taken_from Taken h = refl
taken_from Expanded h = absurd (true≢false (sym h))

pub expanded_by : (k : Mark) → is_expanded k ≡ true → k ≡ Expanded
expanded_by Open h = absurd (true≢false (sym h))
expanded_by Taken h = absurd (true≢false (sym h))
expanded_by Expanded h = refl

pub expanded_from : (k : Mark) → not (is_expanded k) ≡ false → k ≡ Expanded
expanded_from k h = expanded_by k (not-false (is_expanded k) h)

pub not_expanded_from : (k : Mark) → not (is_expanded k) ≡ true → k ≢ Expanded
not_expanded_from k h = λ e. true≢false (sym (rw e at h))

-- what is neither expanded nor taken is open
pub open_between : (k : Mark) → k ≢ Expanded → k ≢ Taken → k ≡ Open
open_between Open p q = refl
open_between Taken p q = absurd (q refl)
open_between Expanded p q = absurd (p refl)

-- ---- from the mark to a test

pub open_passes : (k : Mark) → k ≡ Open → is_open k ≡ true
open_passes k h = rw h refl

pub open_fails : (k : Mark) → k ≢ Open → is_open k ≡ false
open_fails k h = false_from_ne_true (is_open k) (λ e. h (open_from k e))

pub expanded_fails : (k : Mark) → k ≡ Expanded → not (is_expanded k) ≡ false
expanded_fails k h = rw h refl

pub left_passes : (k : Mark) → k ≢ Expanded → not (is_expanded k) ≡ true
left_passes k h = not_from_false (is_expanded k) (false_from_ne_true (is_expanded k) (λ e. h (expanded_by k e)))
