use Rattle.std.proofs.Common.{refl, ◌∙◌, arith, rules}
use Rattle.tree_machine.specs.Flat.{cell_code, part_content}
use Rattle.tree_machine.specs.Laws.ReadParts.{one_more_read, kept_at}
use Rattle.ellen.specs.Parts.{held_part}
use Rattle.ellen.proofs.reading.held.read_each.Goals as goal

pub returns-in_err-behind : goal.returns-in_err-behind
returns-in_err-behind c =
    let loop = c.loop-thread in
    let before = c.thread-item.result in
    record {
      read = search rules;
      replies = kept_at (λ t. t.replies) loop.threads loop.thread-index _ before refl ∙ loop.invariant.replies;
      notes = kept_at (λ t. t.notes) loop.threads loop.thread-index _ before refl ∙ loop.invariant.notes;
    }

pub returns-in-None : goal.returns-in-None
returns-in-None c =
    let loop = c.loop-thread in
    let before = c.thread-item.result in
    record {
      read = search rules;
      replies = kept_at (λ t. t.replies) loop.threads loop.thread-index _ before refl ∙ loop.invariant.replies;
      notes = kept_at (λ t. t.notes) loop.threads loop.thread-index _ before refl ∙ loop.invariant.notes;
    }

pub loop-thread-preserved : goal.loop-thread-preserved
loop-thread-preserved c =
    let loop = c.loop-thread in
    let before = c.thread-item.result in
    record {
      read =
          one_more_read (λ t. cell_code (part_content (held_part t.place))) loop.threads loop.thread-index _
          c.args.bytes.now loop.rest.now c.in-Some.behind.now (omega arith) loop.invariant.read
          (rw c.in-Some.is at c.in_ok-behind.ensures);
      replies = kept_at (λ t. t.replies) loop.threads loop.thread-index _ before refl ∙ loop.invariant.replies;
      notes = kept_at (λ t. t.notes) loop.threads loop.thread-index _ before refl ∙ loop.invariant.notes;
    }
