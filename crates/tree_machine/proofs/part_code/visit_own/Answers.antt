use Rattle.std.proofs.Common.{◌∙◌, arith}
use Rattle.std.proofs.lemmas.Result.{on_ok_weaker}
use Rattle.tree_machine.proofs.VisitedParts.{own_parts, own_written}
use Rattle.tree_machine.proofs.part_code.visit_own.Goals as goal

pub visit_records-requires : goal.visit_records-requires
visit_records-requires g c =
    let own = c.requires.own in
    rw (c.in_ok-visit_nodes.ensures.coder, (own_parts own _ c.requires.in_range.1.nodes).0)
    (record { in_range = c.requires.in_range; nodes = own.nodes_bounded; records = own.records_bounded })

pub visit_own_held-requires-clause-own : goal.visit_own_held-requires-clause-own
visit_own_held-requires-clause-own g c =
    let nodes = own_parts c.requires.own _ c.requires.in_range.1.nodes in
    let records = own_parts c.requires.own _ c.requires.in_range.1.records in
    rw (c.in_ok-visit_records.ensures.coder, c.in_ok-visit_nodes.ensures.coder, nodes.0, records.0) c.requires.own

pub returns : goal.returns
returns g c =
    let own = c.requires.own in
    let small = c.bounds.ensures.small in
    let bounds = c.bounds.ensures.bounds in
    let first = own_parts own _ c.requires.in_range.1.nodes in
    let second = own_parts own _ c.requires.in_range.1.records in
    let nodes = c.in_ok-visit_nodes.ensures.coder ∙ first.0 in
    let records = rw (nodes, second.0) at c.in_ok-visit_records.ensures.coder in
    record {
      coder = rw records at c.visit_own_held.ensures.coder;
      written = on_ok_weaker c.visit_own_held.result
          (own_written (g.P.Parts.parts c.args.parts.now) c.args.out.now c.node_count.ensures c.record_count.ensures
          (omega (arith, small.0, bounds.0, own.nodes_bounded, c.node_count.ensures))
          (omega (arith, small.1, bounds.1, own.records_bounded, c.record_count.ensures)) c.in_ok-_place.ensures.bytes
          (rw first.1 at c.in_ok-visit_nodes.ensures.written)
          (rw (nodes, second.1) at c.in_ok-visit_records.ensures.written))
          c.visit_own_held.ensures.written;
    }
