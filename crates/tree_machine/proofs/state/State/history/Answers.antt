use Rattle.std.proofs.Common.{arith}
use Rattle.tree_machine.proofs.Runs.{is_history}
use Rattle.tree_machine.proofs.state.State.history.Goals as goal

pub unreachable-requires : goal.unreachable-requires
unreachable-requires g c = grind (arith, is_history)
