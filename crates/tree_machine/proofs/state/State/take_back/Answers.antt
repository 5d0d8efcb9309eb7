-- The thread and the memory are restored, and the step is not counted any more.
use Rattle.std.proofs.Common.{arith}
use Rattle.std.proofs.lemmas.Option.{same_Some}
use Rattle.tree_machine.proofs.OpLog.{taken_back}
use Rattle.tree_machine.proofs.state.State.take_back.Goals as goal

pub returns-in-Some : goal.returns-in-Some
returns-in-Some g c = grind (arith, same_Some, taken_back)

pub returns-else-not-undo : goal.returns-else-not-undo
returns-else-not-undo g c = grind (arith, taken_back)
