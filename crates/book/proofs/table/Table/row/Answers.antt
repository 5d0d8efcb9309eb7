use Rattle.std.proofs.Common.{sym, arith}
use Rattle.std.proofs.lemmas.Option.{slice_get_past}
use Rattle.book.specs.Slots.{entries_of}
use Rattle.book.proofs.SlotLemmas.{length-entries}
use Rattle.book.proofs.table.Table.row.Goals as goal

pub entry-requires : goal.entry-requires
entry-requires g c =
    let s = c.self.inside in
    rw (← c.self.view_is, length-entries s.slots.entries) (omega arith)

pub returns-then-index-len : goal.returns-then-index-len
returns-then-index-len g c = sym c.entry.ensures

pub returns-else-index-len : goal.returns-else-index-len
returns-else-index-len g c =
    let s = c.self.inside in
    let l = length-entries s.slots.entries in
    rw (← c.self.view_is) (sym (slice_get_past (entries_of s.slots.entries) c.args.index (omega arith)))
