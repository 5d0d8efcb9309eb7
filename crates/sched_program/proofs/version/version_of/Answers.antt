-- A version was found, so that nothing is said of none.
use Rattle.sched_program.proofs.version.version_of.Goals as goal

pub returns-in-Some-eq1-clause-none : goal.returns-in-Some-eq1-clause-none
returns-in-Some-eq1-clause-none c = tt
