-- Neither test showed a fault.
use Rattle.std.proofs.Common.{rules}
use Rattle.replay.proofs.finding.fault_in.Goals as goal

pub returns-clause-none : goal.returns-clause-none
returns-clause-none g c = search rules
