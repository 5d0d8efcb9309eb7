use Rattle.std.proofs.Common.{◌≡◌, take}
use Rattle.lin.specs.OpSet.{operations_in}
use Rattle.lin.specs.Timeline.{finished_in}
use Rattle.lin.proofs.timeline.finished_of.Given as goal

abbrev pub invariant-loop-name : goal.invariant-loop-name
invariant-loop-name l = operations_in l.set ≡ finished_in (take l.name-index l.name-items)
