use Rattle.std.proofs.Common.{inl, inr, refl}
use Rattle.std.proofs.lemmas.Result.{err_from_is_err_and}
use Rattle.replay.proofs.file.check.lines_checked.Goals as goal

pub returns-in_err-lines-clause-refused : goal.returns-in_err-lines-clause-refused
returns-in_err-lines-clause-refused g c =
    let p = err_from_is_err_and c.from_residual.result c.from_residual.ensures.1 in
    rw (p.1, p.2) (elim c.in_err-lines.ensures.refused [
      | inl memory ↦ inl memory
      | inr misformed ↦ inr (inl misformed)
    ])

pub returns-in_err-check_lines-clause-refused : goal.returns-in_err-check_lines-clause-refused
returns-in_err-check_lines-clause-refused g c =
    let p = err_from_is_err_and c.from_residual-in_err-check_lines.result
    c.from_residual-in_err-check_lines.ensures.1 in
    rw (p.1, p.2) (elim (rw c.as_slice.ensures.value at c.in_err-check_lines.ensures.refused) [
      | inl memory ↦ inl memory
      | inr refused ↦ inr (inr (c.in_ok-lines.lines.items, c.in_ok-lines.ensures.book, refused))
    ])

pub returns-clause-pass : goal.returns-clause-pass
returns-clause-pass g c =
    let pass = rw c.as_slice.ensures.value at c.in_ok-check_lines.ensures.pass in
    (c.in_ok-lines.lines.items, c.in_ok-lines.ensures.book, pass, refl)
