use Rattle.reports.proofs.Reports.{reported}
use Rattle.reports.proofs.reporting.answer_with_totals.Goals as goal

pub returns-in-Some-clause-report : goal.returns-in-Some-clause-report
returns-in-Some-clause-report g c =
    let law = c.law.ensures in
    reported g.M.Machine.rules c.args.machine c.args.program.now c.args.options c.args.book.now law.machine law.test
    c.read_answer.new.book c.in-Some.answer c.totals.result c.args.shares.now
    (c.is_asked.ensures.0 c.if-not-is_asked.false)
    (rw c.in-Some.is at c.in_ok-answer.ensures.read_off) (rw c.in-Some.is at c.in_ok-answer.ensures.same)
    c.totals.ensures.totals c.requires.shares c.requires.ledger

pub returns-in-None-clause-stopped : goal.returns-in-None-clause-stopped
returns-in-None-clause-stopped g c = λ _. rw c.in-None.is at c.in_ok-answer.ensures.stopped
