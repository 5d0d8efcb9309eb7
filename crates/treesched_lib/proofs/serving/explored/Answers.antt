use Rattle.std.proofs.Common.{refl, sym}
use Rattle.std.proofs.lemmas.Result.{IfOk-weaker}
use Rattle.book.specs.Books.{CountsAsOne}
use Rattle.replay.specs.Findings.{machine_of, IsFindingOf}
use Rattle.book.specs.Law.{IsLawfulBook}
use Rattle.reports.proofs.Ends.{given_merge}
use Rattle.treesched_lib.proofs.Given.{closed}
use Rattle.treesched_lib.proofs.serving.explored.Goals as goal

pub returns : goal.returns
returns g c =
    let report = c.in_ok-report.report in
    let kept = c.in_ok-report.ensures in
    let asked = c.args.options in
    let program = c.args.program.now in
    let rules = g.M.Machine.rules in
    let law =
    given_merge
    (λ x p k. IsLawfulBook (machine_of {Machine = g.row.M.Denot} {Form = g.row.M-Form.Denot} (rules x) p)
    (CountsAsOne (rules x) k) (IsFindingOf (rules x) p) report.book)
    report.book.machine c.args.machine report.book.program program report.book.merge asked.merge kept.asked.machine
    kept.asked.program kept.asked.merge c.law.ensures.law in
    IfOk-weaker c.report_output-output.result _ _
    (λ output printed. record {
      book = report.book;
      law = law;
      asked = record {
        machine = refl;
        program = kept.asked.program;
        limit = kept.asked.limit;
        merge = kept.asked.merge;
      };
      answer = report.answer;
      due = rw kept.totals at kept.due;
      headline = kept.headline;
      first = kept.first;
      closed = kept.closed;
      shares = report.shares.items;
      workers = kept.shares;
      sums = rw kept.totals at kept.sums;
      status = printed.0;
      out = rw kept.totals at printed.1;
      err = printed.2;
      file = rw (sym kept.asked.machine, sym kept.asked.program) printed.3;
    })
    c.report_output-output.ensures

pub report_output-output-requires-after_bounds : goal.report_output-output-requires-after_bounds
report_output-output-requires-after_bounds g c =
    let report = c.in_ok-report.report in
    λ κs lives. closed
    (machine_of {Machine = g.row.M.Denot} {Form = g.row.M-Form.Denot} (g.M.Machine.rules c.args.machine)
    c.args.program.now) report.book report.answer
    c.in_ok-report.ensures.first c.in_ok-report.ensures.closed
