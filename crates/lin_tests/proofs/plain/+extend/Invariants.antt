use Rattle.lin_tests.proofs.plain.+extend.Given as goal

abbrev pub decreases-extend : goal.decreases-extend
decreases-extend l = l.left
