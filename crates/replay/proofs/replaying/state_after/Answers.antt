use Rattle.std.proofs.Common.{◌≡◌, None, sym}
use Rattle.std.proofs.lemmas.Bool.{true≢false}
use Rattle.replay.specs.Findings.{machine_of}
use Rattle.replay.specs.Schedule.{after}
use Rattle.replay.proofs.Stopping.{stopped}
use Rattle.replay.proofs.replaying.state_after.Goals as goal

pub unreachable-requires : goal.unreachable-requires
unreachable-requires g c =
    let m =
    machine_of {Machine = g.row.M.Denot} {Form = g.row.M-Form.Denot} (g.M.Machine.rules c.args.machine)
    c.args.program.now in
    let stops = rw c.in-Err-NotEnabled.field-0-is at c.in-Err-NotEnabled.ensures.not_enabled in
    let none : after m c.args.schedule.now ≡ None =
    stopped m m.start c.args.schedule.now c.in-Err-NotEnabled.field-0-0 stops.3 in
    absurd (true≢false (sym (rw none at c.requires.leads)))
