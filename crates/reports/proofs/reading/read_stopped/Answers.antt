use Rattle.std.proofs.Common.{◌<◌, ◌∙◌, sym, ap, arith, rules}
use Rattle.replay.specs.Schedule.{after}
use Rattle.book.specs.Books.{machine_in}
use Rattle.reports.proofs.ReadOff.{IsKnown, stopped_read_off}
use Rattle.reports.proofs.reading.read_stopped.Goals as goal

pub is_full_at-requires-clause-way : goal.is_full_at-requires-clause-way
is_full_at-requires-clause-way g c κs within =
    let s = c.in_ok-schedule.ensures.leads in
    (s.0, s.1, ap (after (machine_in g.M.Machine.rules c.args.book.now)) c.as_slice.ensures.value ∙ s.2)

pub returns-clause-read_off : goal.returns-clause-read_off
returns-clause-read_off g c =
    let known : IsKnown g.M.Machine.rules c.args.book.now = search rules in
    let s = c.in_ok-schedule.ensures.leads in
    let less : c.len-holds_to.result < c.args.options.steps =
    omega (arith, c.if-holds_to-from.false, c.from.ensures, c.steps.ensures) in
    stopped_read_off known c.args.id
    (c.in_ok-is_full_at.ensures.full c.if-not-branch-2.false) c.len-holds_to.result
    (s.0, s.1, c.len-holds_to.ensures ∙ c.in_ok-schedule.schedule.ok.0 ∙ s.3)
    (c.in_ok-is_sound_to.ensures.0 c.if-not-branch.false) c.args.options.steps c.limit.result
    (c.limit.ensures ∙ sym c.requires.limit) less
