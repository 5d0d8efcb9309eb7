use Rattle.tree_machine.proofs.VisitedParts.{AreLeft}
use Rattle.tree_machine.proofs.part_code.visit_nodes.Given as goal

-- what is left to visit makes the coding and the bytes that all of them make
abbrev pub invariant-loop-index : goal.invariant-loop-index
invariant-loop-index g l = AreLeft l.fn.coder l.fn.out (g.P.Parts.parts l.parts).nodes l.index l.coder l.out
