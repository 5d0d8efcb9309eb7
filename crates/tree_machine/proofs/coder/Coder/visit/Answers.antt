use Rattle.std.proofs.Common.{◌<◌, ◌∙◌, ap, arith, length, take}
use Rattle.std.proofs.lemmas.List.{with_items_is}
use Rattle.tree_machine.specs.Coding.{Coding}
use Rattle.tree_machine.proofs.VisitedParts.{stack_all, names_all}
use Rattle.tree_machine.proofs.Codings.{part_visited}
use Rattle.tree_machine.proofs.coder.Coder.visit.Goals as goal

pub put_names-requires-2-clause-known : goal.put_names-requires-2-clause-known
put_names-requires-2-clause-known c =
    let same = ap (λ (w : Coding). w.records_below) c.self.view_is in
    names_all (λ x. x < c.args.self.now.records_below) (λ x. x < length c.self.inside.records.numbers.items)
    c.args.records.now c.args.stack.now (λ x l. omega (arith, same)) c.requires.records

pub put_stack-requires-clause-known : goal.put_stack-requires-clause-known
put_stack-requires-clause-known c =
    let same = ap (λ (w : Coding). w.records_below) c.self.view_is in
    stack_all (λ x. x < c.args.self.now.records_below) (λ x. x < length c.put_names-2.new.numbering.numbers.items)
    c.args.records.now c.args.stack.now (λ x l. omega (arith, same, c.put_names-2.ensures.cells)) c.requires.records

pub returns : goal.returns
returns c =
    let nodes = c.in_ok-nodes_end.ensures in
    let records = c.in_ok-records_end.ensures in
    let stack = c.in_ok-out-inside.ensures in
    let same = with_items_is c.put_front.new.bytes c.put_stack.new.bytes
    (c.put_stack.ensures.length ∙ c.put_names-2.ensures.length ∙ c.put_names.ensures.length
    ∙ c.as_mut_slice-bytes.ensures.len) in
    rw (same, ← c.out.view_is)
    (part_visited _ c.args.self.now c.self.view_is c.args.facts.now
    c.args.nodes.now c.args.records.now c.args.stack.now
    (ap (take c.in_ok-start.start) c.as_mut_slice-bytes.ensures.value ∙ c.in_ok-start.ensures.written)
    c.put_names.ensures.cells (c.put_stack.ensures.cells ∙ c.put_names-2.ensures.cells) c.cells-first.ensures.cells
    (record { order = nodes.order; queued = nodes.queue; written = nodes.written })
    (record { order = records.order; queued = records.queue; written = records.written })
    (record { order = stack.order; queued = stack.queue; written = stack.written }))
