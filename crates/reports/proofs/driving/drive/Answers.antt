use Rattle.std.proofs.Common.{arith, rules}
use Rattle.reports.proofs.driving.drive.Goals as goal

pub expand_layer-requires-clause-sound : goal.expand_layer-requires-clause-sound
expand_layer-requires-clause-sound g c κs within = search rules

pub returns-in-Some-clause-cut : goal.returns-in-Some-clause-cut
returns-in-Some-clause-cut g c = (
  c.from-in-layers.result,
  omega (arith, c.from-in-layers.ensures, c.layers-test.true),
  rw c.in-Some.is at c.in_ok-id.ensures.cut,
)
