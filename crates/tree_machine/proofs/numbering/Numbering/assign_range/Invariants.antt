use Rattle.std.proofs.Common.{◌≡◌, ◌++◌, length}
use Rattle.tree_machine.specs.Graphs.{numbers_from}
use Rattle.tree_machine.proofs.numbering.Numbering.assign_range.Given as goal

-- i cells are met
abbrev pub invariant-loop-i : goal.invariant-loop-i
invariant-loop-i l = record {
  order : l.self.order.items ≡ l.fn.self.order.items ++ numbers_from l.first l.i;
  cells : length l.self.numbers.items ≡ length l.fn.self.numbers.items;
}
