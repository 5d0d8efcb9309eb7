use Rattle.std.proofs.Common.{arith, ◌∙◌}
use Rattle.tree_machine.proofs.Walks.{root_next, met_in_end}
use Rattle.tree_machine.proofs.cells.walk.Goals as goal

pub loop-root-preserved : goal.loop-root-preserved
loop-root-preserved c = record {
  order = rw (c.in_ok-_place.ensures.order, c.loop-root.invariant.order)
      (root_next c.args.roots.now c.loop-root.root-index 0 c.requires.roots_distinct c.loop-root-test.true);
  range = c.in_ok-_place.ensures.range ∙ c.loop-root.invariant.range;
}

pub returns-clause-order : goal.returns-clause-order
returns-clause-order c = grind (arith, met_in_end)
