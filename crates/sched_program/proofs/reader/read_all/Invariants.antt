use Rattle.std.proofs.Common.{take}
use Rattle.serde_json.specs.View.{items_view}
use Rattle.sched_program.specs.Text.{Each}
use Rattle.sched_program.proofs.reader.read_all.Given as goal

abbrev pub invariant-loop-value : goal.invariant-loop-value
invariant-loop-value g l = Each g.R.Reader.stands_for (items_view (take l.value-index l.values)) l.things
