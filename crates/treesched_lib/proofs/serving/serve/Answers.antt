use Rattle.treesched_lib.proofs.serving.serve.Goals as goal

pub returns-in_default-book : goal.returns-in_default-book
returns-in_default-book g c = rw (c.in-Some.is, c.in_default-book.is) c.served_alone.ensures

pub returns : goal.returns
returns g c = rw (c.in-Some.is, c.in-Some-book.is) c.served_from.ensures
