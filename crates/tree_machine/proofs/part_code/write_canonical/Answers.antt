use Rattle.std.proofs.Common.{arith, append_assoc, refl}
use Rattle.tree_machine.specs.Laws.Canonical.{fixed_cells}
use Rattle.tree_machine.proofs.Trails.{front_begun, front_written, nodes_are, records_are}
use Rattle.tree_machine.proofs.part_code.write_canonical.Goals as goal

pub visit_graph-requires : goal.visit_graph-requires
visit_graph-requires g c κs within =
    let fixed = c.args.fixed in
    let s = g.P.Parts.parts c.args.parts.now in
    rw (c.in_ok-enqueue_first.ensures, c.in_ok-restart.ensures, c.node_count.ensures, c.record_count.ensures)
    (within, ((fixed, c.requires), (fixed_cells fixed s c.requires, (front_begun fixed s c.requires, (refl, refl)))))

pub visit_behind-requires : goal.visit_behind-requires
visit_behind-requires g c = grind (arith, nodes_are, records_are)

pub returns : goal.returns
returns g c =
    let walked = rw (c.in_ok-enqueue_first.ensures, c.in_ok-restart.ensures) at c.in_ok-visit_graph.ensures.walked in
    rw (
      c.in_ok-visit_graph.ensures.written,
      c.buffer.view_is,
      front_written c.args.fixed _ c.requires walked,
      append_assoc,
    ) at c.visit_behind.ensures
