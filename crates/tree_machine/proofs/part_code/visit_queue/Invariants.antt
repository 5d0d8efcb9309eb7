use Rattle.tree_machine.proofs.Trails.{IsTrail}
use Rattle.tree_machine.proofs.part_code.visit_queue.Given as goal

-- the cells of the queue so far are written
abbrev pub invariant-loop-place : goal.invariant-loop-place
invariant-loop-place g l =
    IsTrail (g.P.Parts.parts l.parts) g.walk.0 g.walk.1 l.place l.fn.out l.fn.records l.coder l.out l.records
