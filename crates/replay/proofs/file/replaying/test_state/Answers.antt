-- A state is shown by what the tests of its threads, its memory and its order say.
use Rattle.std.proofs.Common.{rules}
use Rattle.replay.proofs.file.replaying.test_state.Goals as goal

pub returns-then-check_order-clause-shown : goal.returns-then-check_order-clause-shown
returns-then-check_order-clause-shown g c = search rules

pub returns-clause-unshown : goal.returns-clause-unshown
returns-clause-unshown g c = search rules

-- an order that does not explain the history shows nothing
pub returns-clause-shown : goal.returns-clause-shown
returns-clause-shown g c = tt
