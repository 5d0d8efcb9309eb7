use Rattle.tree_machine.proofs.VisitedParts.{own_parts}
use Rattle.tree_machine.proofs.part_code.visit_own_held.Goals as goal

pub returns : goal.returns
returns g c =
    let held = own_parts c.requires.own _ c.requires.in_range.1.held in
    let visited = c.visit_all_held.ensures in
    record { coder = rw held.0 at visited.coder; written = rw held.1 at visited.written }
