use Rattle.reports.proofs.reading.read_answer.Goals as goal

pub returns-in-None-clause-read_off : goal.returns-in-None-clause-read_off
returns-in-None-clause-read_off g c = rw c.steps.ensures at c.read_finished.ensures.read_off
