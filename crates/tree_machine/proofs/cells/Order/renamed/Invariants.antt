use Rattle.std.proofs.Common.{◌≡◌, map, take}
use Rattle.std.specs.Option.{option_and_then}
use Rattle.tree_machine.specs.Cells.{place_in}
use Rattle.tree_machine.proofs.cells.Order.renamed.Given as goal

-- the refs so far, renamed
abbrev pub invariant-loop-reference : goal.invariant-loop-reference
invariant-loop-reference l =
    l.refs.items ≡ map (option_and_then (place_in l.self.order.items)) (take l.reference-index l.cell.refs)
