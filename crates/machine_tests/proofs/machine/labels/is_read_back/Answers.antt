use Rattle.std.proofs.Common.{◌∙◌}
use Rattle.machine_tests.proofs.machine.labels.is_read_back.Goals as goal

pub read_label-requires-clause-labelled : goal.read_label-requires-clause-labelled
read_label-requires-clause-labelled g c κs within =
    (c.args.state.now, c.requires, c.as_slice.ensures ∙ c.in_ok-label.ensures)
