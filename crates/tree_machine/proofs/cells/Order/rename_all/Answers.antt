use Rattle.tree_machine.proofs.Walks.{rename_next}
use Rattle.tree_machine.proofs.cells.Order.rename_all.Goals as goal

pub loop-cell-preserved : goal.loop-cell-preserved
loop-cell-preserved c =
    rename_next _ c.requires.cells_in_range c.deref-cell-items.ensures.value c.loop-cell-test.true
    c.index-cells-cell.is c.in_ok-renamed.ensures c.loop-cell.invariant c.in_ok-push.ensures.items
