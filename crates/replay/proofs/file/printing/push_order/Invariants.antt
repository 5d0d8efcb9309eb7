use Rattle.std.proofs.Common.{◌≡◌, ◌++◌, take}
use Rattle.replay.specs.Text.Files.{commaed}
use Rattle.replay.proofs.file.printing.push_order.Given as goal

abbrev pub invariant-loop-id : goal.invariant-loop-id
invariant-loop-id l = l.text.items ≡ l.initial.text.items ++ commaed (take l.id-index l.rest)
