use Rattle.std.proofs.Common.{◌≡◌, length, drop}
use Rattle.tree_machine.specs.Cells.{met_all}
use Rattle.tree_machine.proofs.cells.Order.assign_all.Given as goal

-- meeting what is left gives the order that meeting all gives
abbrev pub invariant-loop-reference : goal.invariant-loop-reference
invariant-loop-reference l = record {
  order : met_all l.self.order.items (drop l.reference-index l.refs) ≡ met_all l.fn.self.order.items l.refs;
  range : length l.self.numbers.items ≡ length l.fn.self.numbers.items;
}
