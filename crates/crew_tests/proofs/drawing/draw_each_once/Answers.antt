-- All seats of the counter are returned.
use Rattle.std.proofs.Common.{rules, ◌∙◌, slice_set}
use Rattle.claims.proofs.Turns.{one_each}
use Rattle.crew_tests.proofs.drawing.draw_each_once.Goals as goal

pub close-closed-requires-clause-every : goal.close-closed-requires-clause-every
close-closed-requires-clause-every g c =
    one_each c.in_ok-claims.claims (slice_set c.in_ok-spent.spent.items 0 c.claim-again.new.seat) (search rules)
    ∙ search rules
