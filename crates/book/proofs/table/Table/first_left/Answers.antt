use Rattle.std.proofs.Common.{sym, ◌∙◌}
use Rattle.book.proofs.Cursors.{left_is}
use Rattle.book.proofs.table.Table.first_left.Goals as goal

pub returns : goal.returns
returns g c = rw (← c.self.view_is) (c.within.ensures ∙ sym (left_is c.self.invariant))
