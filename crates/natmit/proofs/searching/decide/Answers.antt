use Rattle.natmit.proofs.searching.decide.Goals as goal

pub returns-in-Delete : goal.returns-in-Delete
returns-in-Delete c = λ tag. rw c.in-Delete.is (c.decide_delete.ensures tag)
