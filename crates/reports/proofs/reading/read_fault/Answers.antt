use Rattle.std.proofs.Common.{◌≡◌, ◌∙◌, sym, length, arith, rules}
use Rattle.std.proofs.lemmas.Bool.{true≢false}
use Rattle.reports.proofs.ReadOff.{IsKnown, fault_is_last, fault_read_off}
use Rattle.reports.proofs.reading.read_fault.Goals.{then-length-from-via-then-length-from}
use Rattle.reports.proofs.reading.read_fault.Goals.{then-length-from-via-else-length-from+then-not-is_last_layer}
use Rattle.reports.proofs.reading.read_fault.Goals as goal

pub returns-then-length-from-clause-some : goal.returns-then-length-from-clause-some
returns-then-length-from-clause-some g c =
    let known : IsKnown g.M.Machine.rules c.args.book.now = search rules in
    let v = c.in_ok-schedule.schedule in
    let is : c.len-length.result ≡ length v.items = c.len-length.ensures ∙ v.ok.0 in
    λ worked.
    let last = fault_is_last known c.args.id c.requires v c.in_ok-schedule.ensures.leads c.args.steps worked in
    elim c.then-length-from.branch [
      | then-length-from-via-then-length-from w
          ↦ absurd (omega (arith, w.if-length-from.true, last.0, c.from.ensures))
      | then-length-from-via-else-length-from+then-not-is_last_layer w
          ↦ absurd (true≢false (sym (w.is_last_layer.ensures.1 (rw is last.1)) ∙ w.if-not-is_last_layer.true))
    ]

pub returns-clause-read_off : goal.returns-clause-read_off
returns-clause-read_off g c =
    let known : IsKnown g.M.Machine.rules c.args.book.now = search rules in
    let v = c.in_ok-schedule.schedule in
    let is : c.len-length.result ≡ length v.items = c.len-length.ensures ∙ v.ok.0 in
    fault_read_off known c.args.id c.requires v c.in_ok-schedule.ensures.leads _ c.fault_at-finding.ensures
    c.args.steps (omega (arith, c.if-length-from.false, c.from.ensures))
    (rw is at (c.is_last_layer.ensures.0 c.if-not-is_last_layer.false))
