use Rattle.std.proofs.Common.{rules}
use Rattle.tree_machine.specs.Laws.SearchOrder.{internal_is_ordered}
use Rattle.tree_machine.proofs.search_order.+is_ordered.Goals as goal

pub returns-else-is_ordered : goal.returns-else-is_ordered
returns-else-is_ordered g t c =
    let both =
    internal_is_ordered (g.S.Shapes.shapes c.args.memory.now) c.args.low c.args.high c.args.x c.in-Some-Internal.key
    c.in-Some-Internal.left c.in-Some-Internal.right (search rules) in
    search (rules, both)
