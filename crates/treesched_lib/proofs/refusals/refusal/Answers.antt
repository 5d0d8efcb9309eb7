-- One line on the standard error, and nothing else.
use Rattle.std.proofs.Common.{rules}
use Rattle.treesched_lib.proofs.refusals.refusal.Goals as goal

pub returns : goal.returns
returns c = search rules
