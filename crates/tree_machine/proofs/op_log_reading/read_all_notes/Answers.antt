-- The notes of one thread more are read, and its replies stay.
use Rattle.std.proofs.Common.{arith}
use Rattle.std.proofs.Math.Seq.{map-set_same}
use Rattle.std.proofs.lemmas.Grind.{common_steps}
use Rattle.tree_machine.proofs.op_log_reading.read_all_notes.Goals as goal

pub loop-index-preserved : goal.loop-index-preserved
loop-index-preserved g c = grind (arith, map-set_same, common_steps)
