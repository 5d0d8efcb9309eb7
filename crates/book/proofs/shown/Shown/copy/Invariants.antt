use Rattle.book.proofs.shown.Shown.copy.Given as goal

abbrev pub ghost-any : goal.ghost-any
ghost-any g a = a.x.now.value
