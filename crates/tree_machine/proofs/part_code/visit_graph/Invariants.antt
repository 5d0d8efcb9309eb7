use Rattle.tree_machine.proofs.part_code.visit_graph.Given as goal

-- the walk of the queue is this one
abbrev pub ghost-visit_queue : goal.ghost-visit_queue
ghost-visit_queue g a = g.walk
