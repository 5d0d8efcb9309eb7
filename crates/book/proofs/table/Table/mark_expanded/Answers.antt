use Rattle.book.specs.Entries.{Expanded}
use Rattle.book.specs.Slots.{entries_of}
use Rattle.book.proofs.EntryLemmas.{length-with_mark}
use Rattle.book.proofs.SlotLemmas.{length-entries}
use Rattle.book.proofs.Cursors.{still_expanded, cursors_expanded}
use Rattle.book.proofs.table.Table.mark_expanded.Goals as goal

pub first_left_from-self-inside-requires-clause-before : goal.first_left_from-self-inside-requires-clause-before
first_left_from-self-inside-requires-clause-before g c =
    rw c.mark_at.ensures.entries (still_expanded c.self.invariant c.args.index)

pub first_left_from-self-inside-requires-clause-within : goal.first_left_from-self-inside-requires-clause-within
first_left_from-self-inside-requires-clause-within g c = rw (
  ← length-entries c.mark_at.new.slots.entries,
  c.mark_at.ensures.entries,
  length-with_mark (entries_of c.self.inside.slots.entries) c.args.index Expanded,
)
    c.self.invariant.left.within

pub invariant_of-self : goal.invariant_of-self
invariant_of-self g c =
    rw c.mark_at.ensures.entries
    (cursors_expanded c.self.invariant c.args.index (rw (← c.self.view_is) at c.requires)
    c.first_left_from-self-inside.result (rw c.mark_at.ensures.entries at c.first_left_from-self-inside.ensures))
