-- The rule of the claims: each place of a list is drawn once.
use Rattle.std.specs.Prelude.{◌≡◌, ℕ, ◌+◌, ◌<◌, ◌≤◌, List, [], ◌∷◌, ◌++◌, length, min, slice_index, All, IsPermutation}
use Rattle.std.specs.List.{flat_map, sum_by, range_with_len}
use Rattle.atomic_table.specs.Table.{State, Me, Step}
use Rattle.claims.specs.declared.view.Draws.{Draws}
use Rattle.claims.specs.declared.view.Size.{Size}

-- the places that the seats drew, one seat after the other
abbrev pub places_of : List Draws → List ℕ
places_of views = flat_map (λ seat. seat.places) views

-- how many seats found no place left
abbrev pub spent_of : List Draws → ℕ
spent_of views = sum_by (λ seat. seat.spent) views

-- how many seats these are
abbrev pub seats_of : List Draws → ℕ
seats_of views = sum_by (λ seat. seat.seats) views

-- the numbers below n, in order
abbrev pub below : ℕ → List ℕ
below n = range_with_len 0 n

-- a seat that is several in one finds none left at most once for each, a seat that is none drew nothing, and a seat
-- knows the counter's size
pub record FitsCounter (size : Size) (seat : Draws) : Type 0 where
  pub stated : seat.spent ≤ seat.seats
  pub idle : seat.seats ≡ 0 → seat.places ≡ []
  pub knows : 0 < seat.seats → seat.size ≡ size

-- all lists together are the numbers below the smaller of the word and the length, each once, and the word counts the
-- places drawn and the seats that found none left
pub record ClaimsHold (size : Size) (word : ℕ) (views : List Draws) : Type 0 where
  pub drawn : IsPermutation (below (min word size.len)) (places_of views)
  pub counted : word ≡ length (places_of views) + spent_of views
  pub seats : seats_of views ≡ size.seats
  pub fits : All (FitsCounter size) views

-- the rule over the one word of a table
abbrev pub TableHolds : Size → State (Unit {0}) Draws → Type 0
TableHolds size table = (length table.words ≡ 1) × ClaimsHold size (slice_index table.words 0) table.views

-- a seat that is `seats` in one, drew these places, and of which `spent` found none left
abbrev pub draws : ℕ → List ℕ → ℕ → Size → Draws
draws seats places spent size = record { seats = seats; places = places; spent = spent; size = size }

-- a seat that is `seats` in one and drew nothing
abbrev pub fresh : ℕ → Size → Draws
fresh seats size = draws seats [] 0 size

-- what is left of a seat once another took it in
abbrev pub no_seat : Draws
no_seat = fresh 0 (record { len = 0; seats = 0 })

-- a draw reads the number n: a place above all that the seat drew before, which goes to the end of its list, or a
-- number that is no place, by which the seat finds none left
pub record IsDraw (before : Draws) (n : ℕ) (after : Draws) : Type 0 where
  pub place : n < before.size.len → All (λ earlier. earlier < n) before.places
      × (after ≡ draws before.seats (before.places ++ n ∷ []) before.spent before.size)
  pub none_left : before.size.len ≤ n → after ≡ draws before.seats before.places (before.spent + 1) before.size

-- a draw as the table sees it: the seat takes no slot
abbrev pub IsDrawStep : Step (Unit {0}) → Me (Unit {0}) Draws → ℕ → Me (Unit {0}) Draws → Type 0
IsDrawStep step before n after = IsDraw before.0 n after.0 × (after.1 ≡ before.1)
