-- What it returns follows by the library's rules alone.
use Rattle.std.proofs.Common.{rules}
use Rattle.natmit.proofs.machine.NatMitEncode.only_reads.Goals as goal

pub returns-in-Begin : goal.returns-in-Begin
returns-in-Begin c = search rules

pub returns-in_default : goal.returns-in_default
returns-in_default c = search rules

pub returns-in-Begin-2 : goal.returns-in-Begin-2
returns-in-Begin-2 c = search rules

pub returns-in-Begin-3 : goal.returns-in-Begin-3
returns-in-Begin-3 c = search rules

pub returns-in-Begin-4 : goal.returns-in-Begin-4
returns-in-Begin-4 c = search rules

pub returns-in-Begin-5 : goal.returns-in-Begin-5
returns-in-Begin-5 c = search rules
