use Rattle.std.specs.String.{string_bytes}
use Rattle.treesched_lib.specs.Lines.{report_text}
use Rattle.treesched_lib.proofs.Ledgers.{on_empty}
use Rattle.treesched_lib.proofs.serving.report_output.Goals as goal

pub returns : goal.returns
returns g c =
    let report = c.args.report.now in (
      c.status_of.ensures,
      on_empty (string_bytes c.put_report.new.page) (string_bytes c.new-out.result)
          (report_text c.args.ledger report.answer report.totals report.shares.items) c.in_ok-put_report.ensures
          c.new-out.ensures.bytes,
      c.new.ensures.bytes,
      c.in_ok-book.ensures,
    )
