use Rattle.std.proofs.Common.{◌≡◌, ◌+◌, ◌∙◌, ap, refl, take, get_or, None, Err, length, arith}
use Rattle.std.proofs.Math.Seq.{take-length}
use Rattle.std.proofs.lemmas.List.{take_more}
use Rattle.tree_machine.specs.Step.{step}
use Rattle.replay.specs.Findings.{machine_of}
use Rattle.replay.specs.Laws.Schedules.{run_push, run_stops}
use Rattle.replay.specs.Laws.Machines.{step_counts}
use Rattle.replay.proofs.replaying.replay.Goals as goal

pub returns-in-Err-NotEnabled-clause-not_enabled : goal.returns-in-Err-NotEnabled-clause-not_enabled
returns-in-Err-NotEnabled-clause-not_enabled g c =
    let rules = g.M.Machine.rules c.args.machine in
    let m = machine_of {Machine = g.row.M.Denot} {Form = g.row.M-Form.Denot} rules c.args.program.now in
    let t = get_or c.args.schedule.now c.loop-i.i 0 in
    let stuck : step rules c.args.program.now c.loop-i.state t ≡ None =
    c.step.ensures.no_step.0 (c.in-Err-NotEnabled.is ∙ ap Err c.in-Err-NotEnabled.field-0-is) in (
      c.loop-i.i,
      refl,
      (rw c.loop-i.invariant.0 refl),
      rw (take_more c.args.schedule.now c.loop-i.i 0 c.loop-i-test.true)
          (run_stops m (take c.loop-i.i c.args.schedule.now) m.start c.loop-i.state t c.loop-i.invariant.0 stuck),
    )

pub loop-i-preserved : goal.loop-i-preserved
loop-i-preserved g c =
    let rules = g.M.Machine.rules c.args.machine in
    let m = machine_of {Machine = g.row.M.Denot} {Form = g.row.M-Form.Denot} rules c.args.program.now in
    let t = get_or c.args.schedule.now c.loop-i.i 0 in (
      rw (take_more c.args.schedule.now c.loop-i.i 0 c.loop-i-test.true)
          (run_push m (take c.loop-i.i c.args.schedule.now) m.start c.loop-i.state c.in-Ok.next t c.loop-i.invariant.0
          c.in-Ok.ensures.step),
      c.in-Ok.ensures.fits,
      step_counts rules c.args.program.now c.loop-i.state c.in-Ok.next t c.in-Ok.ensures.step
          ∙ ap (λ n. n + 1) c.loop-i.invariant.2,
    )

pub returns-clause-state : goal.returns-clause-state
returns-clause-state g c =
    let done : c.loop-i.i ≡ length c.args.schedule.now = omega arith in
    rw (done, take-length c.args.schedule.now) at c.loop-i.invariant.0
