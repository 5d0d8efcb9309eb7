use Rattle.std.proofs.Common.{◌∙◌}
use Rattle.machine_tests.proofs.machine.labels.is_read_after.Goals as goal

pub read_label-requires-clause-labelled : goal.read_label-requires-clause-labelled
read_label-requires-clause-labelled g c κs within =
    (c.args.before.now, c.requires.before, c.as_slice-last.ensures ∙ c.in_ok-last.ensures)

pub read_label-requires-2-clause-labelled : goal.read_label-requires-2-clause-labelled
read_label-requires-2-clause-labelled g c κs within =
    (c.args.state.now, c.requires.state, c.as_slice.ensures ∙ c.in_ok-label.ensures)
