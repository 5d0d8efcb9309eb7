-- Options are in range.
use Rattle.std.proofs.Common.{rules}
use Rattle.options.proofs.options.Options.new.Goals as goal

pub invariant_of-result : goal.invariant_of-result
invariant_of-result c = search rules
