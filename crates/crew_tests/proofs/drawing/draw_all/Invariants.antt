use Rattle.claims.specs.Seats.{IsSeatOf}
use Rattle.crew_tests.proofs.drawing.draw_all.Given as goal

abbrev pub invariant-loop : goal.invariant-loop
invariant-loop l = IsSeatOf l.claims l.seat
