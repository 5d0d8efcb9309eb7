use Rattle.std.proofs.Common.{◌≤◌, vec_len, vec_capacity}
use Rattle.replay.specs.Findings.{machine_of, IsFindingOf}
use Rattle.book.specs.Law.{IsExpansion}
use Rattle.book.proofs.expansion.Expansion.of.Given as goal

-- the steps so far are those of the threads so far
abbrev pub invariant-loop-thread : goal.invariant-loop-thread
invariant-loop-thread g l =
    let m = machine_of {Machine = g.row.M.Denot} {Form = g.row.M-Form.Denot} (g.M.Machine.rules l.machine) l.program in
    record {
      front : IsExpansion (record m { threads = l.thread }) (IsFindingOf (g.M.Machine.rules l.machine) l.program)
          l.state l.successors.items;
      len : vec_len l.successors ≤ l.thread;
      room : l.threads ≤ vec_capacity l.successors;
    }
