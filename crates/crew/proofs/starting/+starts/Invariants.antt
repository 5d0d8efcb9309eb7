use Rattle.std.proofs.Common.{length, ◌+◌, ◌*◌}
use Rattle.crew.proofs.starting.+starts.Given as goal

abbrev pub decreases-call_each : goal.decreases-call_each
decreases-call_each g l = 4 * length l.items.now

abbrev pub decreases-call_beside : goal.decreases-call_beside
decreases-call_beside g l = 4 * length l.others.now + 3

abbrev pub decreases-call_beside-rest : goal.decreases-call_beside-rest
decreases-call_beside-rest g l = 4 * length l.others.now + 1
