use Rattle.std.proofs.Common.{◌≡◌, ◌-◌}
use Rattle.std.specs.List.{range_with_len}
use Rattle.book.specs.Entries.{with_marks}
use Rattle.book.specs.Slots.{entries_of, labels_of}
use Rattle.book.proofs.table.mark_range.Given as goal

abbrev pub invariant-loop-index : goal.invariant-loop-index
invariant-loop-index g l =
    (entries_of l.slots.entries ≡ with_marks (entries_of l.fn.slots.entries)
    (range_with_len l.start (l.index - l.start)) l.mark)
    × (labels_of l.slots.entries ≡ labels_of l.fn.slots.entries)
