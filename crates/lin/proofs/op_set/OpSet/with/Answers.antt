use Rattle.lin.proofs.Bits.{with_name_bit}
use Rattle.lin.proofs.op_set.OpSet.with.Goals as goal

pub returns : goal.returns
returns c = with_name_bit c.args.self.bits c.args.name c.requires.thread c.requires.index
