use Rattle.std.proofs.Common.{◌<◌, length, ◌∙◌, ap, arith, sym}
use Rattle.std.specs.Option.{option_and_then}
use Rattle.tree_machine.specs.Cells.{place_in}
use Rattle.tree_machine.proofs.Numbers.{rename_next, rename_some}
use Rattle.tree_machine.proofs.cells.Order.renamed.Goals as goal
use Rattle.tree_machine.proofs.cells.Order.renamed.Goals.{in-Some, in-None}

pub loop-reference-preserved : goal.loop-reference-preserved
loop-reference-preserved c =
    let seen = c.deref-reference-items.ensures.value ∙ ap (λ v. v.refs) c.cell.view_is in
    let within : c.loop-reference.reference-index < length c.args.cell.now.refs =
    omega (arith, ap length seen, c.loop-reference-test.true) in
    c.in_ok-push.ensures.items
    ∙ elim c.match-reference.branch [
      | in-Some w ↦ rename_some _ seen within c.loop-reference.invariant _ c.args.self.now.has_places c.requires
          w.in-Some.is w.push-is w.index.ensures
      | in-None w ↦ rename_next _ seen within c.loop-reference.invariant
          (w.push-is ∙ ap (option_and_then (place_in c.args.self.now.order.items)) (sym w.in-None.is))
    ]
