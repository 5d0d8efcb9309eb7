use Rattle.replay.proofs.Text.Cuts.{no_line, same_lines}
use Rattle.replay.proofs.Text.Heads.{head_pieces, same_head}
use Rattle.replay.proofs.file.reading.after_head.Goals as goal

pub returns-in_err-head-clause-none : goal.returns-in_err-head-clause-none
returns-in_err-head-clause-none c =
    rw c.from_residual.ensures (λ texts has. cc (no_line has.are_lines c.in_err-head.ensures.none))

pub returns-in_err-entries-clause-none : goal.returns-in_err-entries-clause-none
returns-in_err-entries-clause-none c =
    let cut = c.in_ok-head.ensures.found in
    rw c.from_residual-in_err-entries.ensures
    (λ texts has. c.in_err-entries.ensures.none _ (head_pieces cut.0 cut.1 has).0)

pub returns-in_err-line_count-clause-none : goal.returns-in_err-line_count-clause-none
returns-in_err-line_count-clause-none c =
    let cut = c.in_ok-head.ensures.found in
    rw c.from_residual-in_err-line_count.ensures
    (λ texts has. c.in_err-line_count.ensures.none texts (head_pieces cut.0 cut.1 has).1)

pub returns-else-branch-entries-clause-none : goal.returns-else-branch-entries-clause-none
returns-else-branch-entries-clause-none c =
    let cut = c.in_ok-head.ensures.found in
    let counted = c.in_ok-line_count.ensures.found in
    λ texts has.
    let pieces = head_pieces cut.0 cut.1 has in
    let entries = same_head c.in_ok-entries.ensures.found pieces.0 in
    let lines = same_lines counted.1 pieces.1 in
    c.if-branch-entries.false (cc)
