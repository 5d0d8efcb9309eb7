use Rattle.std.proofs.Common.{◌≡◌, length, take}
use Rattle.tree_machine.specs.Cells.{met_in}
use Rattle.tree_machine.proofs.cells.walk.Given as goal

-- the roots so far are met
abbrev pub invariant-loop-root : goal.invariant-loop-root
invariant-loop-root l = record {
  order : l.order.order.items ≡ take l.root-index l.roots;
  range : length l.order.numbers.items ≡ length l.cells;
}

-- this many visits are done
abbrev pub invariant-loop-visits : goal.invariant-loop-visits
invariant-loop-visits l = record {
  order : l.order.order.items ≡ met_in l.cells l.roots l.visits;
  range : length l.order.numbers.items ≡ length l.cells;
}
