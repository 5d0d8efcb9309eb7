use Rattle.std.proofs.Common.{◌≡◌, ℕ, ◌<◌}
use Rattle.book.specs.Entries.{Expanded, Entry, At}
use Rattle.book.specs.Slots.{entries_of}
use Rattle.book.proofs.table.first_left_from.Given as goal

abbrev pub invariant-loop-index : goal.invariant-loop-index
invariant-loop-index g l = (i : ℕ) (e : Entry g.row.S.Denot) → At (entries_of l.slots.entries) i e → i < l.index
    → e.mark ≡ Expanded
