-- A list is cut in one way only at its first element that fails a test.
use Rattle.std.proofs.Common.{◌≡◌, ◌≢◌, ℕ, ◌+◌, ◌<◌, List, [], ◌∷◌, ◌++◌, ◌∙◌, length, get_or, take, drop, refl}
use Rattle.std.proofs.Common.{sym, ap}
use Rattle.std.proofs.lemmas.List.{take_more, drop_more, take-append-drop, append_assoc}
use Rattle.std.specs.List.{AllByRecursion}
use Rattle.replay.specs.Text.Files.{ended, AreLines}

-- what comes before the first element that fails the test, that element, and what follows it
pub same_cut : {A : Type 0} (P : A → Type 0) (front : List A) (x : A) (rest : List A) (other : List A) (y : A)
    (more : List A)
    → front ++ x ∷ rest ≡ other ++ y ∷ more → AllByRecursion P front → ¬ P x → AllByRecursion P other → ¬ P y
    → (front ≡ other) × (x ≡ y) × (rest ≡ more)
same_cut P [] x rest [] y more e all fails also lacks = (refl, cc, cc)
same_cut P [] x rest (b ∷ other) y more e all fails also lacks = let same : x ≡ b = cc in
    absurd (fails (rw same also.0))
same_cut P (a ∷ front) x rest [] y more e all fails also lacks = let same : y ≡ a = cc in
    absurd (lacks (rw same all.0))
same_cut P (a ∷ front) x rest (b ∷ other) y more e all fails also lacks =
    let same = same_cut P front x rest other y more (cc) all.1 fails also.1 lacks in
    (cc, same.1, same.2)

-- a list that passes the test has no element that fails it
pub no_cut : {A : Type 0} (P : A → Type 0) (all front : List A) (x : A) (rest : List A)
    → all ≡ front ++ x ∷ rest → AllByRecursion P all → ¬ P x → ⊥
no_cut P [] [] x rest e passes fails = cc
no_cut P [] (b ∷ front) x rest e passes fails = cc
no_cut P (a ∷ all) [] x rest e passes fails = let same : x ≡ a = cc in fails (rw same passes.0)
no_cut P (a ∷ all) (b ∷ front) x rest e passes fails = no_cut P all front x rest (cc) passes.1 fails

-- nothing is cut in no way
pub not_nil : {A : Type 0} (front : List A) (x : A) (rest : List A) → [] ≡ front ++ x ∷ rest → ⊥
not_nil [] x rest e = cc
not_nil (b ∷ front) x rest e = cc

-- what comes before the first byte that is `at`, and what follows it
pub one_cut : (at : ℕ) (text tail other more : List ℕ) → text ++ at ∷ tail ≡ other ++ at ∷ more
    → AllByRecursion (λ b. b ≢ at) text → AllByRecursion (λ b. b ≢ at) other → (text ≡ other) × (tail ≡ more)
one_cut at text tail other more e bare also =
    let same = same_cut (λ b. b ≢ at) text at tail other at more e bare (λ d. d refl) also (λ d. d refl) in
    (same.0, same.2)

same_ended : (texts others : List (List ℕ)) → ended texts ≡ ended others
    → AllByRecursion (AllByRecursion (λ b. b ≢ 10)) texts → AllByRecursion (AllByRecursion (λ b. b ≢ 10)) others
    → texts ≡ others
same_ended [] [] e bare also = refl
same_ended [] (other ∷ others) e bare also = absurd (not_nil other 10 (ended others) e)
same_ended (text ∷ texts) [] e bare also = absurd (not_nil text 10 (ended texts) (sym e))
same_ended (text ∷ texts) (other ∷ others) e bare also =
    let same = one_cut 10 text (ended texts) other (ended others) e bare.0 also.0 in
    cc (same.0, same_ended texts others same.1 bare.1 also.1)

-- the bytes are lines in one way only
pub same_lines : {bytes : List ℕ} {texts others : List (List ℕ)} → AreLines bytes texts → AreLines bytes others
    → texts ≡ others
same_lines are also = same_ended _ _ (sym are.whole ∙ also.whole) are.bare also.bare

pub all_append : {A : Type 0} (P : A → Type 0) (xs ys : List A) → AllByRecursion P xs → AllByRecursion P ys
    → AllByRecursion P (xs ++ ys)
all_append P [] ys all also = also
all_append P (x ∷ xs) ys all also = (all.0, all_append P xs ys all.1 also)

pub all_more : {A : Type 0} (P : A → Type 0) (xs : List A) (i : ℕ) (d : A) → i < length xs
    → AllByRecursion P (take i xs) → P (get_or xs i d)
    → AllByRecursion P (take (i + 1) xs)
all_more P xs i d less all here =
    rw (take_more xs i d less) (all_append P (take i xs) (get_or xs i d ∷ []) all (here, tt))

-- a list is what comes before an element, that element, and what follows it
pub split_at : {X : Type 0} (xs : List X) (i : ℕ) (x d : X) → i < length xs → get_or xs i d ≡ x
    → xs ≡ take i xs ++ x ∷ drop (i + 1) xs
split_at xs i x d less is = rw (← is, ← drop_more xs i d less) (sym (take-append-drop i xs))

-- where lines have a first line feed, the first line comes before it
pub next_line : {bytes text tail : List ℕ} {texts : List (List ℕ)} → AreLines bytes texts → bytes ≡ text ++ 10 ∷ tail
    → AllByRecursion (λ b. b ≢ 10) text → (later : List (List ℕ)) × (texts ≡ text ∷ later) × AreLines tail later
next_line {text = text} {tail = tail} {texts = []} are e bare = absurd (not_nil text 10 tail (sym are.whole ∙ e))
next_line {text = text} {tail = tail} {texts = first ∷ later} are e bare =
    let same = one_cut 10 first (ended later) text tail (sym are.whole ∙ e) are.bare.0 bare in
    (later, ap (λ (t : List ℕ). t ∷ later) same.0, record { whole = sym same.1; bare = are.bare.1 })

-- bytes without a line feed are no lines
pub no_line : {bytes : List ℕ} {texts : List (List ℕ)} → AreLines bytes texts → AllByRecursion (λ b. b ≢ 10) bytes
    → texts ≡ []
no_line {texts = []} are bare = refl
no_line {bytes} {texts = first ∷ later} are bare =
    absurd (no_cut (λ b. b ≢ 10) bytes first 10 (ended later) are.whole bare (λ d. d refl))

pub ended_append : (texts others : List (List ℕ)) → ended (texts ++ others) ≡ ended texts ++ ended others
ended_append [] others = refl
ended_append (text ∷ texts) others =
    rw (append_assoc text (10 ∷ ended texts) (ended others), ended_append texts others)
