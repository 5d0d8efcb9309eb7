use Rattle.sched_program.specs.Program.{key_of}
use Rattle.sched_program.proofs.reader.OpReaderReader.read.Goals as goal

pub returns-in-None-clause-none : goal.returns-in-None-clause-none
returns-in-None-clause-none c = λ op is. c.in-None.ensures.none (key_of op) is.key
