-- The test of each name is the test of all.
use Rattle.std.proofs.Common.{rules}
use Rattle.sched_program.proofs.history.are_of.Goals as goal

pub returns : goal.returns
returns c = search rules
