use Rattle.std.proofs.Common.{sym}
use Rattle.book.proofs.SlotLemmas.{write_mark_at, write_keeps_labels, no_mark_at}
use Rattle.book.proofs.table.mark_at.Goals as goal

pub returns-in-Some-clause-entries : goal.returns-in-Some-clause-entries
returns-in-Some-clause-entries g c =
    write_mark_at c.args.slots.now.entries c.args.index c.in-Some.row.now c.set_mark.new.self c.args.mark
    (sym c.in-Some.ensures.value) c.set_mark.ensures

pub returns-in-Some-clause-labels : goal.returns-in-Some-clause-labels
returns-in-Some-clause-labels g c = write_keeps_labels c.args.slots.now.entries c.args.index c.set_mark.new.self

pub returns-in_default-clause-entries : goal.returns-in_default-clause-entries
returns-in_default-clause-entries g c =
    no_mark_at c.args.slots.now.entries c.args.index c.args.mark
    (sym (rw c.in_default.is at c.get_index_mut.ensures.value))
