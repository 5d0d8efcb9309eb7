use Rattle.std.proofs.Common.{take}
use Rattle.tree_machine.specs.Laws.Canonical.{roots_behind}
use Rattle.tree_machine.proofs.part_code.visit_behind.Given as goal

-- the front and what the threads hold, which are met before
abbrev pub ghost-visit_graph : goal.ghost-visit_graph
ghost-visit_graph g a =
    let roots = roots_behind (g.P.Parts.parts a.parts.now) (take a.first.nodes a.coder.now.nodes)
    (take a.first.records a.coder.now.records) in
    (roots, roots)
