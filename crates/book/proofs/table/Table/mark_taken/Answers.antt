use Rattle.book.proofs.Cursors.{cursor_is, cursors_taken}
use Rattle.book.proofs.table.Table.mark_taken.Goals as goal

pub invariant_of-self : goal.invariant_of-self
invariant_of-self g c =
    let first = cursor_is c.self.invariant c.args.index (rw (← c.self.view_is) at c.requires.first) in
    rw (c.mark_at.ensures.entries, first.0) (cursors_taken c.self.invariant first.1)
