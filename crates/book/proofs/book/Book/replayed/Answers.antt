use Rattle.std.proofs.Common.{◌≡◌, Some, refl}
use Rattle.std.proofs.lemmas.Result.{IfOk-weaker}
use Rattle.replay.specs.Findings.{machine_of}
use Rattle.replay.specs.Schedule.{after}
use Rattle.book.proofs.book.Book.replayed.Goals as goal

pub state_after-requires-clause-leads : goal.state_after-requires-clause-leads
state_after-requires-clause-leads g c κs within =
    let leads = rw (← c.self.view_is) at c.in_ok-schedule.ensures.leads in
    rw (c.as_slice.ensures.value, leads.2) refl

pub returns : goal.returns
returns g c =
    let s = c.self.inside in
    let m =
    machine_of {Machine = g.row.M.Denot} {Form = g.row.M-Form.Denot} (g.M.Machine.rules s.machine) s.program in
    let leads = rw (← c.self.view_is) at c.in_ok-schedule.ensures.leads in
    rw (← c.self.view_is) (IfOk-weaker c.state_after.result (λ end. after m c.as_slice.result.now ≡ Some end) _
    (λ end is. (leads.0, leads.1, cc (leads.2, rw c.as_slice.ensures.value at is)))
    c.state_after.ensures.state)
