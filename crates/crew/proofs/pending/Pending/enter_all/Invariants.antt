use Rattle.std.proofs.Common.{◌≡◌}
use Rattle.crew.proofs.pending.Pending.enter_all.Given as goal

-- the book stays of the machine and the program
abbrev pub invariant-loop-entry : goal.invariant-loop-entry
invariant-loop-entry g l = record {
  machine : l.book.machine ≡ l.fn.machine;
  program : l.book.program ≡ l.fn.program;
}
