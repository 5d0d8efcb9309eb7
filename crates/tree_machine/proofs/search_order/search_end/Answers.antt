use Rattle.std.proofs.Common.{rules, ◌≡◌, suc, ◌-◌, sym, ◌∙◌, arith, Some}
use Rattle.tree_machine.specs.Laws.SearchOrder.{end_at_none, end_at_leaf, end_below}
use Rattle.tree_machine.specs.declared.search_order.Shape.TheVariants.{Leaf, Internal}
use Rattle.tree_machine.proofs.search_order.search_end.Goals as goal

pub loop-level-preserved : goal.loop-level-preserved
loop-level-preserved g c more e =
    let is : g.S.Shapes.shapes c.args.memory.now c.loop-level.leaf
    ≡ Some (Internal c.in-Some-Internal.other c.in-Some-Internal.left c.in-Some-Internal.right) = search rules in
    let step =
    end_below (g.S.Shapes.shapes c.args.memory.now) c.args.key more c.loop-level.parent c.loop-level.leaf _ _ _ is in
    let before = c.loop-level.invariant (suc more) (omega arith) in
    rw c.child_towards-leaf.ensures (sym step ∙ before)

pub returns-in-Some-Leaf : goal.returns-in-Some-Leaf
returns-in-Some-Leaf g c =
    let is : g.S.Shapes.shapes c.args.memory.now c.loop-level.leaf ≡ Some (Leaf c.in-Some-Leaf._other) = search rules in
    sym (end_at_leaf _ c.args.key (c.args.levels - c.loop-level._level) c.loop-level.parent c.loop-level.leaf _ is)
    ∙ c.loop-level.invariant (c.args.levels - c.loop-level._level) (omega arith)

pub returns-in-None : goal.returns-in-None
returns-in-None g c =
    sym (end_at_none (g.S.Shapes.shapes c.args.memory.now) c.args.key (c.args.levels - c.loop-level._level)
    c.loop-level.parent c.loop-level.leaf (search rules))
    ∙ c.loop-level.invariant (c.args.levels - c.loop-level._level) (omega arith)

pub returns : goal.returns
returns g c = c.loop-level.invariant 0 (omega arith)
