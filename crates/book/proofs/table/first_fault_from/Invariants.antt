use Rattle.std.proofs.Common.{◌≡◌, ℕ, ◌<◌, true}
use Rattle.book.specs.Entries.{Entry, At}
use Rattle.replay.specs.Findings.{is_sound}
use Rattle.book.specs.Slots.{entries_of}
use Rattle.book.proofs.table.first_fault_from.Given as goal

abbrev pub invariant-loop-index : goal.invariant-loop-index
invariant-loop-index g l = (i : ℕ) (e : Entry g.row.S.Denot) → At (entries_of l.slots.entries) i e → i < l.index
    → is_sound e.finding ≡ true
