use Rattle.std.proofs.lemmas.Result.{IfOk-weaker}
use Rattle.tree_machine.specs.Laws.Cells.{answer_is, answer_exactly}
use Rattle.tree_machine.proofs.Walks.{order_in_range}
use Rattle.tree_machine.proofs.cells.canon.Goals as goal

pub rename_all-requires-clause-cells_in_range : goal.rename_all-requires-clause-cells_in_range
rename_all-requires-clause-cells_in_range c =
    order_in_range _ _ _ c.requires c.in_ok-walk.ensures.order

pub returns-clause-canonical : goal.returns-clause-canonical
returns-clause-canonical c =
    IfOk-weaker c.rename_all.result _ _
    (λ v e. answer_is _ _ _ v.items c.in_ok-walk.ensures.order e) c.rename_all.ensures

pub returns-clause-exact : goal.returns-clause-exact
returns-clause-exact c =
    IfOk-weaker c.rename_all.result _ _
    (λ v e others targets aimed l. answer_exactly _ others _ targets _ v.items c.in_ok-walk.ensures.order e c.requires
    aimed l)
    c.rename_all.ensures
