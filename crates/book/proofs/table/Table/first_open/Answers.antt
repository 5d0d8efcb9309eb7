use Rattle.std.proofs.Common.{sym, ◌∙◌}
use Rattle.book.proofs.Cursors.{open_from, open_is}
use Rattle.book.proofs.table.Table.first_open.Goals as goal

pub returns-clause-first : goal.returns-clause-first
returns-clause-first g c = rw (← c.self.view_is) (c.within.ensures ∙ sym (open_is c.self.invariant))

pub returns-clause-above : goal.returns-clause-above
returns-clause-above g c = rw (← c.self.view_is) (open_from c.self.invariant c.within.result c.within.ensures)
