-- The answer is that of the call, and so is what it says where there is none.
use Rattle.lin.proofs.searcher.judge.Goals as goal

pub returns-clause-none : goal.returns-clause-none
returns-clause-none c = c.in_ok-answer.ensures.none
