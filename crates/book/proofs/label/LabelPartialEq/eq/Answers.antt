use Rattle.std.proofs.Common.{rules}
use Rattle.book.proofs.label.LabelPartialEq.eq.Goals as goal

pub returns-then-self-other : goal.returns-then-self-other
returns-then-self-other = search rules
