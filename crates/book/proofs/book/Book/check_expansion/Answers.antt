use Rattle.std.proofs.Common.{sym, ◌∙◌, true≢false}
use Rattle.book.proofs.book.Book.check_expansion.Goals as goal

pub is_expansion_of-requires-after_bounds : goal.is_expansion_of-requires-after_bounds
is_expansion_of-requires-after_bounds g c κs within = c.is_taken.ensures.0 c.if-not-is_taken.false

pub returns-in-Ok-true-clause-admitted : goal.returns-in-Ok-true-clause-admitted
returns-in-Ok-true-clause-admitted g c =
    (c.is_taken.ensures.0 c.if-not-is_taken.false, c.in-Ok-true.ensures.answer.0 c.in-Ok-true.field-0-test)

pub returns-in-Ok-false-clause-refused : goal.returns-in-Ok-false-clause-refused
returns-in-Ok-false-clause-refused g c = (
  c.is_taken.ensures.0 c.if-not-is_taken.false,
  λ own. true≢false (sym (c.in-Ok-false.ensures.answer.1 own) ∙ c.in-Ok-false.field-0-test),
)

pub returns-in-Err-clause-refused : goal.returns-in-Err-clause-refused
returns-in-Err-clause-refused g c =
    (c.is_taken.ensures.0 c.if-not-is_taken.false, λ exact. absurd (c.in-Err.ensures.refused exact))
