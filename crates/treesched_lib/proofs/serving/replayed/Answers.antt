use Rattle.std.proofs.Common.{inl}
use Rattle.std.proofs.lemmas.Result.{IfOk-weaker}
use Rattle.treesched_lib.proofs.Servings.{stuck}
use Rattle.treesched_lib.proofs.serving.replayed.Goals as goal

pub returns-in-Err-NotEnabled : goal.returns-in-Err-NotEnabled
returns-in-Err-NotEnabled g c =
    stuck g.row.M.Denot g.row.M-Form.Denot (g.M.Machine.rules c.args.machine) c.args.program.now c.args.schedule.now
    c.in-Err-NotEnabled.field-0
    c.in-Err-NotEnabled.step c.in-Err-NotEnabled.field-0-is c.in-Err-NotEnabled.ensures.not_enabled c.no_step.result
    c.no_step.ensures

pub returns-in-Ok : goal.returns-in-Ok
returns-in-Ok g c =
    IfOk-weaker c.replay_output.result _ _
    (λ output printed. inl (record {
      state = c.in-Ok.last.state;
      finding = c.in-Ok.last.finding;
      leads = c.in-Ok.ensures.state;
      found = c.in-Ok.ensures.finding;
      printed = printed;
    }))
    c.replay_output.ensures
