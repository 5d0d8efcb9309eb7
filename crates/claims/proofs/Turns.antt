-- The steps of the loops over seats, and what the last word says.
use Rattle.std.proofs.Common.{◌≡◌, ℕ, List, [], ◌∷◌, ◌++◌, length, get_or, All, IsPermutation, sym, refl, ap}
use Rattle.std.proofs.Common.{◌∙◌, arith, append_assoc}
use Rattle.std.proofs.lemmas.List.{append-nil}
use Rattle.std.proofs.lemmas.List.Concat.{flat_map-append}
use Rattle.std.proofs.lemmas.List.Sums.{sum_by-cons}
use Rattle.std.proofs.lemmas.List.Sorted.{IsPermutation-trans, IsPermutation-append_right, IsPermutation-append_comm}
use mathlib.Core.Option.{some, some-injective, some-ne-none}
use lib.ListN.{get_elem?}
use Rattle.atomic_table.specs.Table.{Me}
use Rattle.claims.specs.declared.view.Draws.{Draws}
use Rattle.claims.specs.Values.{Seated, Counter}
use Rattle.claims.specs.Rule.{fresh}
use Rattle.claims.specs.Seats.{IsSeatOf, IsFresh, places_drawn, seats_held}
use Rattle.std.proofs.lemmas.List.Elements.{All-push, All-same, All-head, All-tail}

-- what the table knows of one seat
abbrev pub Knows : Type 0
Knows = Me (Unit {0}) Draws

-- the last seat's list goes behind those gathered
pub more_places : (all left : List ℕ) (seats rest : List Seated) (s : Seated) → seats ≡ rest ++ s ∷ []
    → IsPermutation all (places_drawn seats ++ left) → IsPermutation all (places_drawn rest ++ (left ++ s.drew.places))
more_places all left seats rest s is h =
    IsPermutation-trans _ _ _ (simp (is, flat_map-append, append-nil, append_assoc) at h)
    (IsPermutation-append_right (places_drawn rest) _ _ (IsPermutation-append_comm s.drew.places left))

-- the word that a closed table reads
pub first_word : (words items : List ℕ) (r : ℕ) → words ≡ items → get_elem? items 0 ≡ some r → get_or words 0 0 ≡ r
first_word words [] r is at = absurd (some-ne-none r (sym at))
first_word words (x ∷ xs) r is at = ap (λ (l : List ℕ). get_or l 0 0) is ∙ some-injective x r at

-- a seat that `new` makes
abbrev pub IsNew : Counter → Seated → Type 0
IsNew claims seat = IsSeatOf claims seat × IsFresh seat

-- one more seat is made
pub all_new : (claims : Counter) (made before : List Seated) (seat : Seated) → made ≡ before ++ seat ∷ []
    → All (IsNew claims) before → seat.counter ≡ claims.counter → seat.drew ≡ fresh 1 claims.size
    → All (IsNew claims) made
all_new claims made before seat is h counter drew =
    All-same (IsNew claims) made (before ++ seat ∷ []) is (All-push (IsNew claims) before seat h
    (rw drew (record { counter = counter; size = refl; single = refl }, (refl, refl))))

-- each seat of a counter is one
pub one_each : (claims : Counter) (seats : List Seated) → All (IsSeatOf claims) seats → seats_held seats ≡ length seats
one_each claims [] h = refl
one_each claims (seat ∷ seats) h =
    omega (
      arith,
      sum_by-cons (λ (s : Seated). s.drew.seats) seat seats,
      (All-head (IsSeatOf claims) seat seats h).single,
      one_each claims seats (All-tail (IsSeatOf claims) seat seats h),
    )
