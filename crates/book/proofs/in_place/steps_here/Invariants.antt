use Rattle.std.proofs.Common.{◌≡◌, ◌≤◌, vec_len, vec_capacity}
use Rattle.tree_machine.specs.declared.state.State.{State}
use Rattle.replay.specs.Findings.{machine_of, IsFindingOf}
use Rattle.book.specs.ByLabel.{AreStepsOf, HoldsOfKey, label_in}
use Rattle.book.proofs.in_place.steps_here.Given as goal

-- the steps so far are those of the threads so far
abbrev pub invariant-loop-thread : goal.invariant-loop-thread
invariant-loop-thread g l =
    record {
      state : l.state ≡ l.fn.state;
      front : HoldsOfKey g.M.Machine.rules g.M.Encode.own_code g.M.Encode.form_code g.M.Machine.form_of l.from.key
          (λ (of : State g.row.M.Denot g.row.M-Mem.Denot g.row.M-Loc.Denot g.row.M-Form.Denot).
          AreStepsOf
          (record (machine_of (g.M.Machine.rules l.from.key.machine) l.from.key.program) { threads = l.thread })
          (IsFindingOf (g.M.Machine.rules l.from.key.machine) l.from.key.program)
          (label_in g.M.Machine.rules g.M.Encode.own_code g.M.Encode.form_code g.M.Machine.form_of l.from.key) of
          l.steps.items);
      len : vec_len l.steps ≤ l.thread;
      room : l.threads ≤ vec_capacity l.steps;
    }
