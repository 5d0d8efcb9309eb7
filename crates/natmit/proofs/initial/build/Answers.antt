-- What it returns follows by the library's rules alone.
use Rattle.std.proofs.Common.{rules}
use Rattle.natmit.proofs.initial.build.Goals as goal

pub returns-in_err-mem : goal.returns-in_err-mem
returns-in_err-mem c = search rules
