use mir.Syntax.{named}
use denote.Param.{copied, param}
use Rattle.crew.proofs.Crossing.{one_lent, run_sync}
use Rattle.crew.proofs.layers.work_at_once.Goals as goal

-- the closure is a reference to what the workers share
pub call_at_once-requires-sync-F : goal.call_at_once-requires-sync-F
call_at_once-requires-sync-F g c κs within =
    let b = c.type_bounds in
    let run =
    run_sync (record { mir = named 7; lft = κs.1.1.1.1.1.1.1.0 }) (copied 0 g.row.M) (param 1 g.row.G)
    (param 2 g.row.R) (param 3 g.row.M-Mem) (param 4 g.row.M-Loc) (param 5 g.row.M-Form) g.M.Encode g.M.Machine
    g.M.PartialEq g.M.Mem.PartialEq g.M.Mem.Hash g.M.Loc.PartialEq g.M.Loc.Hash g.M.Form.PartialEq g.M.Form.Hash
    b.send-M b.send-M-Mem b.send-M-Loc b.send-M-Form b.sync-M b.sync-M-Mem b.sync-M-Loc b.sync-M-Form
    b.sync-G b.sync-R in
    record {
      shared = λ d. (one_lent κs.1.1.1.1.1.1.0 _ run).shared (d.0, tt);
    }
