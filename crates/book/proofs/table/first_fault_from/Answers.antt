use Rattle.std.proofs.Common.{◌≡◌, true, not, sym, ap, ◌∙◌, arith}
use Rattle.std.proofs.lemmas.Option.{slice_get_within}
use Rattle.book.specs.Entries.{Entry}
use Rattle.replay.specs.Findings.{is_sound}
use Rattle.book.specs.Slots.{entries_of}
use Rattle.book.proofs.SlotLemmas.{length-entries}
use Rattle.book.proofs.Cursors.{first_is, none_is, below_next}
use Rattle.book.proofs.table.first_fault_from.Goals as goal

pub returns-then-not-is_sound : goal.returns-then-not-is_sound
returns-then-not-is_sound g c =
    sym (first_is (λ (e : Entry g.row.S.Denot). not (is_sound e.finding)) (entries_of c.args.slots.now.entries)
    c.loop-index.index c.slot_at.result.1.now c.slot_at.ensures.row
    (ap not (sym c.is_sound.ensures ∙ c.if-not-is_sound.true))
    (λ k y there less. ap not (c.loop-index.invariant k y there less)))

pub loop-index-preserved : goal.loop-index-preserved
loop-index-preserved g c =
    below_next (λ (e : Entry g.row.S.Denot). is_sound e.finding ≡ true) (entries_of c.args.slots.now.entries)
    c.loop-index.index c.slot_at.result.1.now c.slot_at.ensures.row
    (sym c.is_sound.ensures ∙ c.if-not-is_sound.false) c.loop-index.invariant

pub returns : goal.returns
returns g c =
    let es = entries_of c.args.slots.now.entries in
    let l = length-entries c.args.slots.now.entries in
    sym (none_is (λ (e : Entry g.row.S.Denot). not (is_sound e.finding)) es
    (λ k y there. ap not (c.loop-index.invariant k y there (omega (arith, slice_get_within es k y there)))))
