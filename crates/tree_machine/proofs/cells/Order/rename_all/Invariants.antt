use Rattle.std.proofs.Common.{◌≡◌, map, take}
use Rattle.tree_machine.specs.Cells.{content_at, renamed}
use Rattle.tree_machine.proofs.cells.Order.rename_all.Given as goal

-- the cells so far, renamed
abbrev pub invariant-loop-cell : goal.invariant-loop-cell
invariant-loop-cell l =
    l.answer.items ≡ map (λ x. renamed l.self.order.items (content_at l.cells x)) (take l.cell-index l.self.order.items)
