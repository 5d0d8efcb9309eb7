use Rattle.std.specs.String.{string_bytes}
use Rattle.treesched_lib.proofs.Ledgers.{with_ledger, without_ledger}
use Rattle.treesched_lib.proofs.lines.put_report.Goals as goal

pub returns-in_ok-put_ledger : goal.returns-in_ok-put_ledger
returns-in_ok-put_ledger g c =
    with_ledger (string_bytes c.args.page.now) _ _ c.args.report.now.answer c.args.report.now.totals _ _
    c.args.ledger c.if-ledger.true c.as_slice.ensures.value c.in_ok-put_answer.ensures c.in_ok-put_ledger.ensures

pub returns-else-ledger : goal.returns-else-ledger
returns-else-ledger g c =
    without_ledger (string_bytes c.args.page.now) _ c.args.report.now.answer c.args.report.now.totals _
    c.args.ledger c.if-ledger.false c.in_ok-put_answer.ensures
