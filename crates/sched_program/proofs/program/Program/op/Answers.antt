-- The thread is found by the name's thread, and the operation in it by the name's index.
use Rattle.std.proofs.Common.{◌∙◌}
use Rattle.sched_program.proofs.program.Program.op.Goals as goal

pub returns : goal.returns
returns c =
    rw (← c.self.view_is, ← c.from.ensures, ← c.in_ok-thread.ensures, ← c.from-2.ensures)
    (c.copied.ensures ∙ c.get-2.ensures)
