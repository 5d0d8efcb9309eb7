-- Each list is a copy, and the tree is the program's own.
use Rattle.sched_program.proofs.program.Program.copy.Goals as goal

pub returns : goal.returns
returns c =
    rw (
      c.in_ok-initial.ensures,
      c.in_ok-threads.ensures,
      c.as_slice.ensures,
      c.in_ok-turns.ensures,
      c.as_slice-2.ensures,
    ) c.self.view_is
