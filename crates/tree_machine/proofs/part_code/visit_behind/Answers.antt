use Rattle.std.proofs.Common.{rules}
use Rattle.tree_machine.proofs.HeldWalks.{HasFront, all_left, front_kept, none_left, ok_both, walk_begun}
use Rattle.tree_machine.proofs.part_code.visit_behind.Goals as goal
use Rattle.tree_machine.proofs.part_code.visit_behind.Goals.{else-node_count-first-via-else-node_count-first}
use Rattle.tree_machine.proofs.part_code.visit_behind.Goals.{else-node_count-first-via-then-node_count-first+else-record_count-first}

pub returns-then-record_count-first : goal.returns-then-record_count-first
returns-then-record_count-first g c =
    let front : HasFront c.args.fixed (g.P.Parts.parts c.args.parts.now) c.args.coder.now = search rules in
    let held = c.in_ok-visit_all_held.ensures in
    none_left front c.args.out.now (cc) (cc) (rw c.clear_queue.ensures at held.written)

pub visit_graph-requires : goal.visit_graph-requires
visit_graph-requires g c κs within =
    let front : HasFront c.args.fixed (g.P.Parts.parts c.args.parts.now) c.args.coder.now = search rules in
    rw (
      c.in_ok-visit_all_held.ensures.coder,
      c.clear_queue.ensures,
      c.node_count.ensures.result,
      c.record_count.ensures.result,
      front_kept front,
    )
    (within, ((c.args.fixed, c.requires.in_range), walk_begun front))

pub returns : goal.returns
returns g c =
    let front : HasFront c.args.fixed (g.P.Parts.parts c.args.parts.now) c.args.coder.now = search rules in
    let held = c.in_ok-visit_all_held.ensures in
    let nodes = c.node_count.ensures.result in
    let records = c.record_count.ensures.result in
    ok_both c.visit_graph.result
    (all_left front c.visit_graph.new.coder c.args.out.now
    (λ same alike. elim c.else-node_count-first.branch [
      | else-node_count-first-via-then-node_count-first+else-record_count-first w ↦ w.if-record_count-first.false (cc)
      | else-node_count-first-via-else-node_count-first w ↦ w.if-node_count-first.false (cc)
    ])
    (rw c.clear_queue.ensures at held.written))
    (rw (held.coder, c.clear_queue.ensures, nodes, records, front_kept front) at c.visit_graph.ensures.walked)
    c.visit_graph.ensures.written
