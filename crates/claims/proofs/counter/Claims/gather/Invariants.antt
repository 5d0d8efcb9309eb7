use Rattle.std.proofs.Common.{◌≡◌, ◌+◌, ◌++◌, [], All, IsPermutation}
use Rattle.claims.specs.Seats.{IsSeatOf, places_drawn, seats_spent, seats_held}
use Rattle.claims.proofs.counter.Claims.gather.Given as goal

abbrev pub invariant-loop-seat : goal.invariant-loop-seat
invariant-loop-seat l = record {
  own : l.whole.table_id ≡ l.self.counter;
  knows : l.whole.me.0.size ≡ l.self.size;
  bare : l.whole.me.1 ≡ [];
  seats : All (λ s. IsSeatOf l.self s) l.seats.items;
  held : l.whole.me.0.seats + seats_held l.seats.items ≡ seats_held l.fn.seats.items;
  spent : l.whole.me.0.spent + seats_spent l.seats.items ≡ seats_spent l.fn.seats.items;
  places : IsPermutation (places_drawn l.fn.seats.items) (places_drawn l.seats.items ++ l.whole.me.0.places);
}

abbrev pub decreases-loop-seat : goal.decreases-loop-seat
decreases-loop-seat l = goal.left-loop-seat l
