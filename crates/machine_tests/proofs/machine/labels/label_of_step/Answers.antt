-- The numbers of a state that fits the program are in range.
use Rattle.tree_machine.proofs.Forms.{numbers_fit}
use Rattle.machine_tests.proofs.machine.labels.label_of_step.Goals as goal

pub label_after-requires-clause-coded : goal.label_after-requires-clause-coded
label_after-requires-clause-coded g c κs within =
    let how = c.args.how.now in
    let some = c.requires.labelled in
    (some.0, numbers_fit (g.M.Machine.rules how.machine) how.program.now some.0 some.1, some.2)
