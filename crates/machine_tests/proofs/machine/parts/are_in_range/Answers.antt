use Rattle.std.proofs.Common.{refl, arith}
use Rattle.machine_tests.proofs.machine.parts.are_in_range.Goals as goal

pub returns : goal.returns
returns c stated = record {
  fixed_in_range = omega arith;
  nodes = c.if-not-rows_below.ensures refl;
  records = c.if-not-rows_below-2.ensures refl;
  held = c.rows_below-3.ensures stated;
}
