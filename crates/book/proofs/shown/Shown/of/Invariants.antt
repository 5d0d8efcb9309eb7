use Rattle.book.proofs.shown.Shown.of.Given as goal

abbrev pub ghost-any : goal.ghost-any
ghost-any g a = a.x.now
