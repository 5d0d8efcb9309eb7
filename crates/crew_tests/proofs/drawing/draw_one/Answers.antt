-- All seats of the counter are returned.
use Rattle.std.proofs.Common.{rules, ◌∙◌, slice_set}
use Rattle.claims.proofs.Turns.{one_each}
use Rattle.crew_tests.proofs.drawing.draw_one.Goals as goal

pub close-requires-clause-every : goal.close-requires-clause-every
close-requires-clause-every g c =
    one_each c.in_ok-claims.claims (slice_set c.in_ok-claims.seats.items 0 c.claim.new.seat) (search rules)
    ∙ search rules
