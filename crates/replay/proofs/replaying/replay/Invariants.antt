use Rattle.std.proofs.Common.{◌≡◌, Some, take}
use Rattle.tree_machine.specs.Step.{Fits}
use Rattle.replay.specs.Schedule.{after}
use Rattle.replay.specs.Findings.{machine_of}
use Rattle.replay.proofs.replaying.replay.Given as goal

abbrev pub invariant-loop-i : goal.invariant-loop-i
invariant-loop-i g l =
    (after (machine_of {Machine = g.row.M.Denot} {Form = g.row.M-Form.Denot} (g.M.Machine.rules l.machine) l.program)
    (take l.i l.schedule) ≡ Some l.state)
    × Fits (g.M.Machine.rules l.machine) l.program l.state
    × (l.state.steps ≡ l.i)
