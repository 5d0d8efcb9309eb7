-- Each turn joins one more seat.
use Rattle.std.proofs.Common.{rules, arith, ap, sym, ◌≡◌, ◌++◌, [], ◌∷◌}
use Rattle.std.proofs.lemmas.List.Elements.{All-pop}
use Rattle.std.proofs.lemmas.List.Sums.{sum_by_push}
use Rattle.claims.specs.Values.{Seated}
use Rattle.claims.specs.Seats.{IsSeatOf, seats_held, seats_spent}
use Rattle.claims.proofs.Steps.{join_kept}
use Rattle.claims.proofs.Turns.{more_places}
use Rattle.claims.proofs.counter.Claims.gather.Goals as goal

pub join_seat-requires : goal.join_seat-requires
join_seat-requires c = (search rules, search rules, search rules, search rules, join_kept _ _ _ _ _ (search rules))

pub loop-seat-preserved : goal.loop-seat-preserved
loop-seat-preserved c =
    let me = c.join_seat.ensures.2 in
    let i = c.loop-seat.invariant in
    let seat = c.in-Some-pop.seat in
    let rest = c.pop-in-loop-seat.new.self.items in
    let p : c.loop-seat.seats.items ≡ rest ++ seat ∷ [] = c.in-Some-pop.ensures.items in
    let drew : seat.drew ≡ c.seat.inside.token.me.0 = ap (λ (h : Seated). h.drew) (sym c.seat.view_is) in
    record {
      own = search rules;
      bare = rw me i.bare;
      knows = rw me i.knows;
      seats = (All-pop (IsSeatOf c.args.self.now) c.loop-seat.seats.items rest
          c.pop-in-loop-seat.result c.pop-in-loop-seat.ensures.items i.seats).0;
      held = rw (me, ← drew) (
          omega (arith, i.held, ap seats_held p, sum_by_push (λ (s : Seated). s.drew.seats) rest seat));
      spent = rw (me, ← drew) (
          omega (arith, i.spent, ap seats_spent p, sum_by_push (λ (s : Seated). s.drew.spent) rest seat));
      places = rw (me, ← drew) (more_places _ _ _ _ _ p i.places);
    }
