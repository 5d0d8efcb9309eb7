use Rattle.std.proofs.Common.{◌≡◌, ℕ, ◌+◌}
use Rattle.tree_machine.specs.SearchOrder.{end_of}
use Rattle.tree_machine.proofs.search_order.search_end.Given as goal

abbrev pub invariant-loop-level : goal.invariant-loop-level
invariant-loop-level g l =
    (more : ℕ) → l._level + more ≡ l.fn.levels
    → end_of (g.S.Shapes.shapes l.memory) l.key more l.parent l.leaf
    ≡ end_of (g.S.Shapes.shapes l.fn.memory) l.fn.key l.fn.levels 0 0
