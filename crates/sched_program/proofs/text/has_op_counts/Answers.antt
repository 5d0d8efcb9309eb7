use Rattle.sched_program.proofs.text.has_op_counts.Goals as goal

pub returns-in-None : goal.returns-in-None
returns-in-None c = λ has. (rw c.in-None.is at c.in_ok-counts.ensures.none) has.0 has.1
