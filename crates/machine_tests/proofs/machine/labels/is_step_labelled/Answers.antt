use Rattle.std.proofs.Common.{◌∙◌}
use Rattle.machine_tests.proofs.machine.labels.is_step_labelled.Goals as goal

pub read_label-requires-clause-labelled : goal.read_label-requires-clause-labelled
read_label-requires-clause-labelled g c κs within =
    (c.args.state.now, c.requires, c.as_slice-bytes.ensures ∙ c.in_ok-label.ensures)

pub label_of_step-requires-clause-labelled : goal.label_of_step-requires-clause-labelled
label_of_step-requires-clause-labelled g c κs within =
    (c.args.state.now, c.requires, c.as_slice-bytes.ensures ∙ c.in_ok-label.ensures)
