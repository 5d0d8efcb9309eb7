use Rattle.std.proofs.Common.{◌∙◌, ap, ◌++◌}
use Rattle.std.proofs.lemmas.Result.{on_ok_weaker}
use Rattle.tree_machine.proofs.Trails.{graph_written}
use Rattle.tree_machine.proofs.part_code.visit_graph.Goals as goal

pub returns-clause-written : goal.returns-clause-written
returns-clause-written g c =
    let begun = c.requires.1.1.1.0 in
    let ended = c.in_ok-visit_queue.ensures in
    on_ok_weaker c.put.result
    (λ put. graph_written ended.walked c.args.out.now c.in_ok-place.ensures.place
    (rw c.in_ok-place.ensures.bytes at ended.nodes) (rw c.clear.ensures at ended.records)
    c.node_count.ensures.result c.node_count.ensures.small c.record_count.ensures.result c.record_count.ensures.small
    (rw begun.nodes_below at c.requires.1.1.1.1.0)
    (rw (begun.nodes_below, begun.records_below) at c.requires.1.1.1.1.1) c.set_counts.ensures
    (put ∙ ap (λ l. c.set_counts.new.self ++ l) c.as_slice.ensures))
    c.put.ensures.ok
