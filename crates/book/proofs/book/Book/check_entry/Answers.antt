use Rattle.std.proofs.Common.{sym, ◌∙◌, true≢false}
use Rattle.book.proofs.book.Book.check_entry.Goals as goal

pub is_entry_of-requires-clause-taken : goal.is_entry_of-requires-clause-taken
is_entry_of-requires-clause-taken g c κs within =
    rw (← c.entry.view_is) (c.is_taken.ensures.0 c.if-not-is_taken.false)

pub returns-then-not-is_taken-clause-refused : goal.returns-then-not-is_taken-clause-refused
returns-then-not-is_taken-clause-refused g c =
    λ taken. true≢false (sym (c.is_taken.ensures.1 (rw (← c.entry.view_is) at taken)) ∙ c.if-not-is_taken.true)

pub returns-then-is_entry_of-clause-admitted : goal.returns-then-is_entry_of-clause-admitted
returns-then-is_entry_of-clause-admitted g c = (
  rw (← c.entry.view_is) (c.is_taken.ensures.0 c.if-not-is_taken.false),
  c.is_entry_of.ensures.0 c.if-is_entry_of.true,
)

pub returns-else-is_entry_of-clause-refused : goal.returns-else-is_entry_of-clause-refused
returns-else-is_entry_of-clause-refused g c = (
  rw (← c.entry.view_is) (c.is_taken.ensures.0 c.if-not-is_taken.false),
  λ own. true≢false (sym (c.is_entry_of.ensures.1 own) ∙ c.if-is_entry_of.false),
)
