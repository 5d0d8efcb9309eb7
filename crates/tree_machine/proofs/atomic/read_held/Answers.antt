-- What one thread more holds is read, and what it did stays.
use Rattle.std.proofs.Common.{arith}
use Rattle.std.proofs.Math.Seq.{map-set_same}
use Rattle.std.proofs.lemmas.Grind.{common_steps}
use Rattle.tree_machine.proofs.atomic.read_held.Goals as goal

pub loop-index-preserved : goal.loop-index-preserved
loop-index-preserved c = grind (arith, map-set_same, common_steps)
