use Rattle.std.proofs.Common.{◌≡◌}
use Rattle.tree_machine.specs.Step.{step}
use Rattle.book.specs.Slots.{with_rows}
use Rattle.book.proofs.placing.put_steps.Given as goal

abbrev pub invariant-loop-one : goal.invariant-loop-one
invariant-loop-one g l =
    l.slots.entries
    ≡ with_rows (step (g.M.Machine.rules l.machine) l.program) l.source.value l.parent l.fn.slots.entries l.yielded
