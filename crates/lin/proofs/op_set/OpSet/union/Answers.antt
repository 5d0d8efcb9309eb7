use Rattle.lin.proofs.Bits.{union_bits}
use Rattle.lin.proofs.op_set.OpSet.union.Goals as goal

pub returns : goal.returns
returns c = union_bits c.args.self.bits c.args.other.bits
