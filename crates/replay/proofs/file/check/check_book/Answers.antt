use Rattle.std.proofs.Common.{◌≡◌, ◌∙◌, inl, inr, length}
use Rattle.std.proofs.lemmas.Result.{err_from_is_err_and}
use Rattle.replay.proofs.BookFile.Passing.{passing_holds}
use Rattle.replay.proofs.BookFile.Exclusive.{one_refusal_of_bytes, passing_bytes}
use Rattle.replay.proofs.file.check.check_book.Goals as goal

pub returns-in_err-lines-clause-refused : goal.returns-in_err-lines-clause-refused
returns-in_err-lines-clause-refused g c =
    let p = err_from_is_err_and c.from_residual.result c.from_residual.ensures.1 in
    rw (p.1, p.2) c.in_err-lines.ensures.refused

pub returns-in_err-lines-clause-only : goal.returns-in_err-lines-clause-only
returns-in_err-lines-clause-only g c =
    let p = err_from_is_err_and c.from_residual.result c.from_residual.ensures.1 in
    rw (p.1, p.2) (λ not other is. elim c.in_err-lines.ensures.refused [
      | inl memory ↦ absurd (not memory)
      | inr was ↦ one_refusal_of_bytes g.row.M.Denot g.row.M-Form.Denot (g.M.Machine.rules c.args.machine)
          c.args.program.now c.args.bytes.now other _ is was
    ])

pub returns-in_err-lines-clause-passes : goal.returns-in_err-lines-clause-passes
returns-in_err-lines-clause-passes g c =
    let p = err_from_is_err_and c.from_residual.result c.from_residual.ensures.1 in
    rw (p.1, p.2) (λ not entries pass. elim c.in_err-lines.ensures.refused [
      | inl memory ↦ not memory
      | inr was ↦ passing_bytes g.row.M.Denot g.row.M-Form.Denot (g.M.Machine.rules c.args.machine)
          c.args.program.now c.args.bytes.now entries _ pass was
    ])

pub returns-clause-pass : goal.returns-clause-pass
returns-clause-pass g c =
    let all : c.len.result ≡ length c.in_ok-lines.lines.items = c.len.ensures ∙ c.in_ok-lines.lines.ok.0 in
    rw all c.in_ok-lines.ensures.pass

pub returns-clause-every : goal.returns-clause-every
returns-clause-every g c =
    let bound = g.met.M.Machine g.world.𝓛 g.world.𝓜 g.world.𝓡 ((λ s x. x), (λ x. x), (λ x. x), λ x. x) in
    let pass = c.in_ok-lines.ensures.pass in
    passing_holds (bound.lawful c.args.machine) c.initial.ensures.limits (bound.forms c.args.machine) pass.0 pass.2

pub returns-clause-none : goal.returns-clause-none
returns-clause-none g c =
    λ fault. passing_bytes g.row.M.Denot g.row.M-Form.Denot (g.M.Machine.rules c.args.machine) c.args.program.now
    c.args.bytes.now _ fault c.in_ok-lines.ensures.pass
