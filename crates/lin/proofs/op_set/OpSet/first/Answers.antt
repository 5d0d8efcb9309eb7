use Rattle.lin.proofs.Bits.{first_bits}
use Rattle.lin.proofs.op_set.OpSet.first.Goals as goal

pub returns : goal.returns
returns c = rw c.min.ensures (first_bits c.args.thread c.args.count c.requires)
