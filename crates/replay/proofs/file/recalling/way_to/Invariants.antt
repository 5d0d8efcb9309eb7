use Rattle.std.proofs.Common.{List, reverse}
use Rattle.tree_machine.specs.declared.state.State.{State}
use Rattle.replay.specs.BookFile.Replays.{AreReplayed}
use Rattle.replay.proofs.BookFile.Recalled.{LeadsTo}
use Rattle.replay.proofs.file.recalling.way_to.Given as goal

abbrev pub invariant-back : goal.invariant-back
invariant-back g l =
    (states : List (State g.row.M.Denot g.row.M-Mem.Denot g.row.M-Loc.Denot g.row.M-Form.Denot))
    → AreReplayed (g.M.Machine.rules l.fn.input.machine) l.fn.input.program.now l.fn.input.lines.now states
    → LeadsTo (g.M.Machine.rules l.fn.input.machine) l.fn.input.program.now states l.at (reverse l.way.items)
    l.fn.index

abbrev pub decreases-back : goal.decreases-back
decreases-back g l = l.at
