-- Lines are as many as their line feeds.
use Rattle.std.proofs.Common.{◌≡◌, ◌≢◌, ℕ, inl, inr, List, [], ◌∷◌, ◌++◌, ◌∙◌, length, count_by, eqb, refl, sym, ap}
use Rattle.std.proofs.Common.{arith, eq-eqb, ne_eqb}
use Rattle.std.proofs.lemmas.Bool.{cases_eq}
use Rattle.std.proofs.lemmas.List.{append_assoc}
use Rattle.std.proofs.lemmas.List.Sums.{sum_by-cons}
use Rattle.replay.specs.Text.Files.{ended, AreLines}

-- what ends in a line feed is a first line and others
pub lines_to : (front : List ℕ) → (text : List ℕ) × (later : List (List ℕ)) × AreLines (front ++ 10 ∷ []) (text ∷ later)
    × (length (text ∷ later) ≡ count_by (λ b. eqb b 10) (front ++ 10 ∷ []))
lines_to [] = ([], [], record { whole = refl; bare = (tt, tt) }, refl)
lines_to (b ∷ front) =
    let (text, later, are, counts) = lines_to front in
    elim (cases_eq b 10) [
      | inl feed ↦ (
        [],
        text ∷ later,
        record { whole = cc (feed, are.whole); bare = (tt, are.bare) },
        simp sum_by-cons (rw (eq-eqb b 10 feed) (omega (arith, counts))),
      )
      | inr other ↦ (
        b ∷ text,
        later,
        record { whole = ap (λ (l : List ℕ). b ∷ l) are.whole; bare = ((other, are.bare.0), are.bare.1) },
        simp sum_by-cons (rw (ne_eqb b 10 other) (omega (arith, counts))),
      )
    ]

-- lines end in a line feed, unless there are none
pub last_feed : (text : List ℕ) (later : List (List ℕ)) → (front : List ℕ) × (ended (text ∷ later) ≡ front ++ 10 ∷ [])
last_feed text [] = (text, refl)
last_feed text (next ∷ later) =
    let (front, is) = last_feed next later in
    (text ++ 10 ∷ front, ap (λ (l : List ℕ). text ++ 10 ∷ l) is ∙ sym (append_assoc text (10 ∷ front) (10 ∷ [])))

pub no_last_feed : {bytes : List ℕ} → length bytes ≢ 0 → ((front : List ℕ) → bytes ≢ front ++ 10 ∷ [])
    → (texts : List (List ℕ)) → ¬ AreLines bytes texts
no_last_feed some none [] are = some (ap length are.whole)
no_last_feed some none (text ∷ later) are = let (front, is) = last_feed text later in none front (are.whole ∙ is)
