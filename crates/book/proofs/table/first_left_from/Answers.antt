use Rattle.std.proofs.Common.{◌≡◌, sym, ◌∙◌, arith}
use Rattle.std.proofs.lemmas.Option.{slice_get_within}
use Rattle.book.specs.Entries.{Expanded, Entry}
use Rattle.book.specs.Slots.{entries_of}
use Rattle.book.proofs.SlotLemmas.{length-entries}
use Rattle.book.proofs.Cursors.{below_next}
use Rattle.book.proofs.Marks.{expanded_by}
use Rattle.book.proofs.table.first_left_from.Goals as goal

pub loop-index-preserved : goal.loop-index-preserved
loop-index-preserved g c =
    below_next (λ (e : Entry g.row.S.Denot). e.mark ≡ Expanded) (entries_of c.args.slots.now.entries) c.loop-index.index
    c.slot_at.result.1.now c.slot_at.ensures.row
    (expanded_by c.slot_at.result.1.now.mark (sym c.is_expanded.ensures ∙ c.if-not-is_expanded.false))
    c.loop-index.invariant

pub returns : goal.returns
returns g c =
    let l = length-entries c.args.slots.now.entries in
    record {
      expanded = (λ i e at less. c.loop-index.invariant i e at (omega arith));
      stops = (λ e at. absurd
          (omega (arith, slice_get_within (entries_of c.args.slots.now.entries) c.len.result e at)));
      within = omega arith;
    }
