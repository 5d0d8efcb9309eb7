use Rattle.lin_tests.proofs.pruned.+complete.Given as goal

abbrev pub decreases-complete : goal.decreases-complete
decreases-complete l = l.left
