-- What a claim counter and its seats say of one another.
use Rattle.std.specs.Prelude.{◌≡◌, ℕ, List, []}
use Rattle.std.specs.List.{flat_map, sum_by}
use Rattle.claims.specs.Values.{Seated, Counter}

-- the seat is one of this counter's
pub record IsSeatOf (claims : Counter) (seat : Seated) : Type 0 where
  pub counter : seat.counter ≡ claims.counter
  pub size : seat.drew.size ≡ claims.size
  pub single : seat.drew.seats ≡ 1

-- the seat drew nothing, and is not spent
abbrev pub IsFresh : Seated → Type 0
IsFresh seat = (seat.drew.places ≡ []) × (seat.drew.spent ≡ 0)

-- the places that the seats drew, one seat after the other
abbrev pub places_drawn : List Seated → List ℕ
places_drawn seats = flat_map (λ seat. seat.drew.places) seats

-- how many of the seats found no place left
abbrev pub seats_spent : List Seated → ℕ
seats_spent seats = sum_by (λ seat. seat.drew.spent) seats

-- how many seats these are
abbrev pub seats_held : List Seated → ℕ
seats_held seats = sum_by (λ seat. seat.drew.seats) seats
