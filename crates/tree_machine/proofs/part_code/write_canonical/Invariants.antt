use Rattle.std.proofs.Common.{[]}
use Rattle.tree_machine.proofs.part_code.write_canonical.Given as goal

-- the fixed nodes are the roots
abbrev pub ghost-visit_graph : goal.ghost-visit_graph
ghost-visit_graph g a = (a.coder.now.queue, [])
