use Rattle.std.proofs.Common.{◌≤◌, ◌++◌, length, sym, arith, slice_get}
use Rattle.tree_machine.specs.Parts.{parts_graph, parts_held}
use Rattle.tree_machine.specs.Laws.PartCells.{length-cells}
use Rattle.tree_machine.proofs.Trails.{trail_begun, trail_next, trail_long, trail_ended}
use Rattle.tree_machine.proofs.Walks.{past_none}
use Rattle.tree_machine.proofs.part_code.visit_queue.Goals as goal

pub loop-place-init : goal.loop-place-init
loop-place-init g c = trail_begun c.requires.1.1.1

pub loop-place-preserved : goal.loop-place-preserved
loop-place-preserved g c =
    trail_next c.loop-place.invariant c.requires.1.0.1 (sym c.in-Some.ensures) c.visit_cell.new.coder
    c.visit_cell.new.out c.visit_cell.new.records c.in_ok-visit_cell-in-Some.ensures.node
    c.in_ok-visit_cell-in-Some.ensures.record

pub returns-after-loop-place : goal.returns-after-loop-place
returns-after-loop-place g c =
    let s = g.P.Parts.parts c.args.parts.now in
    let t = c.loop-place.invariant in
    let far : length (parts_graph s ++ parts_held s) ≤ c.loop-place.place = omega (arith, length-cells s) in
    let e = trail_ended t c.requires.1.1.0 (trail_long t c.requires.1.1.0 far) in
    record { walked = e.0; nodes = e.1.0; records = e.1.1 }

pub returns-in-None : goal.returns-in-None
returns-in-None g c =
    let queue = c.loop-place.coder.queue in
    let k = c.loop-place.place in
    let short = past_none queue k (sym {b = slice_get queue k} c.in-None.ensures) in
    let e = trail_ended c.loop-place.invariant c.requires.1.1.0 short in
    record { walked = e.0; nodes = e.1.0; records = e.1.1 }
