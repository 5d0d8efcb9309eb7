use Rattle.lin.proofs.Bits.{intersection_bits}
use Rattle.lin.proofs.op_set.OpSet.intersection.Goals as goal

pub returns : goal.returns
returns c = intersection_bits c.args.self.bits c.args.other.bits
