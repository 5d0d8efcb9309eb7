use Rattle.std.proofs.Common.{◌-◌, arith}
use Rattle.book.proofs.Cursors.{cursor_is}
use Rattle.book.proofs.Ranges.{cursors_range}
use Rattle.book.proofs.table.Table.mark_range_taken.Goals as goal

pub invariant_of-self : goal.invariant_of-self
invariant_of-self g c =
    let start = cursor_is c.self.invariant c.args.start (rw (← c.self.view_is) at c.requires.first) in
    rw (c.mark_range.ensures.entries, start.0)
    (cursors_range (c.args.end - c.self.inside.next_open) _ _ (omega (arith, c.requires.some)) c.self.invariant
    (rw (← c.self.view_is) at c.requires.within))
