use Rattle.replay.proofs.file.check.replay_and_close.Goals as goal

pub test_closed-requires-clause-marked : goal.test_closed-requires-clause-marked
test_closed-requires-clause-marked g c κs within = rw c.as_slice.ensures.value c.in_ok-labels.ensures.marked
