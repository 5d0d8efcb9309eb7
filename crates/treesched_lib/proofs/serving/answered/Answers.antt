use Rattle.treesched_lib.proofs.serving.answered.Goals as goal

pub returns-in-Read : goal.returns-in-Read
returns-in-Read g c =
    rw (c.in-Check.is, c.in-Read.is) (rw c.as_slice-in-Read.ensures.value at c.checked.ensures)
