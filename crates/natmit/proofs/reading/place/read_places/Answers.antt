use Rattle.std.proofs.Common.{refl, ◌∙◌, arith}
use Rattle.tree_machine.specs.Flat.{cell_code, part_content}
use Rattle.tree_machine.specs.Laws.ReadParts.{one_more_read, kept_at}
use Rattle.natmit.specs.Parts.{held_part}
use Rattle.natmit.proofs.reading.place.read_places.Goals as goal

pub loop-thread-preserved : goal.loop-thread-preserved
loop-thread-preserved c =
    let loop = c.loop-thread in
    let before = c.thread-item.result in
    record {
      read =
          one_more_read (λ t. cell_code (part_content (held_part t.place))) loop.threads loop.thread-index _
          c.args.bytes.now loop.rest.now c.in_ok-held.behind.now (omega arith) loop.invariant.read c.in_ok-held.ensures;
      replies = kept_at (λ t. t.replies) loop.threads loop.thread-index _ before refl ∙ loop.invariant.replies;
      notes = kept_at (λ t. t.notes) loop.threads loop.thread-index _ before refl ∙ loop.invariant.notes;
    }
