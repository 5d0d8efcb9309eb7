-- Each tree has its machine.
use Rattle.std.proofs.Common.{rules}
use Rattle.treesched_lib.proofs.serving.served.Goals as goal

pub returns-in-Nm : goal.returns-in-Nm
returns-in-Nm g c = search rules
