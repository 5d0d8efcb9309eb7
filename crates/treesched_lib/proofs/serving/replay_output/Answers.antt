use Rattle.std.proofs.Common.{◌++◌, ap}
use Rattle.std.specs.Prelude.{if◌then◌else◌}
use Rattle.std.specs.String.{string_bytes}
use Rattle.sched_program.specs.History.{History}
use Rattle.tree_machine.specs.History.{history_of}
use Rattle.replay.specs.Findings.{is_sound}
use Rattle.treesched_lib.specs.Lines.{operations_text, verdict_text}
use Rattle.treesched_lib.proofs.Ledgers.{as_page, both_on_empty}
use Rattle.treesched_lib.proofs.serving.replay_output.Goals as goal

pub returns : goal.returns
returns g c =
    let program = c.args.program.now in
    let last = c.args.last.now in
    as_page c.status_of_finding.result (if is_sound last.finding then 0 else 1) (string_bytes c.put_verdict.new.page)
    (operations_text program (history_of last.state) ++ verdict_text last.finding) c.page.result c.page.ensures
    c.status_of_finding.ensures
    (both_on_empty (string_bytes c.new-out.result) (string_bytes c.put_operations.new.page)
    (string_bytes c.put_verdict.new.page) (operations_text program c.in_ok-history.history)
    (operations_text program (history_of last.state)) (verdict_text last.finding) c.new-out.ensures.bytes
    c.in_ok-put_operations.ensures (ap (λ (h : History). operations_text program h) c.in_ok-history.ensures)
    c.in_ok-put_verdict.ensures)
