use Rattle.std.proofs.Common.{rules}
use Rattle.crew.proofs.layer_run.Exploration.expand_taken.Goals as goal

pub returns : goal.returns
returns g c = search rules
