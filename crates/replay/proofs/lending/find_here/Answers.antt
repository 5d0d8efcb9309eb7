-- A step that ended no operation leaves the order as it was, and one that ended the last operation extends it.
use Rattle.std.proofs.Common.{Some, ap, sym, ◌∙◌}
use Rattle.std.proofs.lemmas.Option.{same_Some}
use Rattle.replay.proofs.Answered.{step_replied}
use Rattle.replay.proofs.Loans.{step_silent}
use Rattle.replay.proofs.lending.find_here.Goals as goal

pub returns-in-Some-clause-some : goal.returns-in-Some-clause-some
returns-in-Some-clause-some g c = c.in-Some.ensures.some c.args.program.now

pub returns-in_default-reply_since-clause-none : goal.returns-in_default-reply_since-clause-none
returns-in_default-reply_since-clause-none g c =
    let shown = c.in_default.ensures.none in (
      shown.0,
      shown.1,
      step_silent (g.M.Machine.rules c.args.machine) c.args.program.now c.args.from.now.state.now.value
          c.args.next.now c.args.from.now.thread c.requires.step
          (λ a b at_a at_b. rw (same_Some _ _ (sym at_a ∙ c.requires.back.was), ← c.thread.ensures)
          (c.in_default-reply_since.ensures b at_b)) c.args.order.now c.requires.sound.2,
    )

pub returns-clause-some : goal.returns-clause-some
returns-clause-some g c =
    let shown = c.in_default.ensures.none in
    let ended = c.in-Some-reply_since.ensures in
    let replied =
    step_replied (g.M.Machine.rules c.args.machine) c.args.program.now c.args.from.now.state.now.value c.args.next.now
    c.args.from.now.thread c.requires.step c.requires.fits c.thread.result.now ended.0
    (c.requires.back.was ∙ ap Some (sym c.thread.ensures)) ended.1 c.in-Some-reply_since.name
    c.in-Some-reply_since.reply ended.2 ended.3 ended.4 (c.is_last.ensures.0 c.if-is_last.true) in
    (shown.0, shown.1, c.in-Some-order_with_reply.ensures.1 _ _ replied c.requires.sound.2)
