use Rattle.std.proofs.Common.{length, take}
use Rattle.book.proofs.BookFile.Writable.{HasWritten}
use Rattle.book.proofs.writing.write_entries.Given as goal

abbrev pub invariant-loop-index : goal.invariant-loop-index
invariant-loop-index g l = HasWritten (length l.table.entries) (take l.index l.table.entries) l.text.items
