use Rattle.std.proofs.Common.{◌∙◌, sym, rules}
use Rattle.std.proofs.lemmas.Bool.{true≢false}
use Rattle.reports.proofs.ReadOff.{IsKnown, closed_rests, every_read_off, holds_read_off}
use Rattle.reports.proofs.reading.read_finished.Goals as goal

pub returns-then-is_at_rest-clause-read_off : goal.returns-then-is_at_rest-clause-read_off
returns-then-is_at_rest-clause-read_off g c =
    let known : IsKnown g.M.Machine.rules c.args.book.now = search rules in
    every_read_off known c.args.steps (sym c.first_fault.ensures ∙ c.in-None.is)
    (rw c.from-last.ensures at (c.is_last_layer.ensures.0 c.if-not-is_last_layer.false))
    (rw c.from-last.ensures at (c.is_at_rest.ensures.0 c.if-is_at_rest.true))

pub returns-else-closed-clause-read_off : goal.returns-else-closed-clause-read_off
returns-else-closed-clause-read_off g c =
    let known : IsKnown g.M.Machine.rules c.args.book.now = search rules in
    holds_read_off known c.args.steps (sym c.first_fault.ensures ∙ c.in-None.is)
    (rw c.from-last.ensures at (c.is_last_layer.ensures.0 c.if-not-is_last_layer.false))
    (λ rest. true≢false (sym (c.is_at_rest.ensures.1 (rw c.from-last.ensures rest)) ∙ c.if-is_at_rest.false))
    (λ closed. true≢false (sym (c.closed.ensures.closed.1 closed) ∙ c.if-closed.false))

pub returns-then-closed-clause-some : goal.returns-then-closed-clause-some
returns-then-closed-clause-some g c =
    let known : IsKnown g.M.Machine.rules c.args.book.now = search rules in
    λ worked.
    let rest = closed_rests known c.args.steps (c.closed.ensures.closed.0 c.if-closed.true) worked in
    absurd (true≢false (sym (c.is_at_rest.ensures.1 (rw c.from-last.ensures rest)) ∙ c.if-is_at_rest.false))
