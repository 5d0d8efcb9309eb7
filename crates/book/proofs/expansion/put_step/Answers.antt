-- The step is appended as the state that it reaches, with its finding.
use Rattle.std.proofs.Common.{ap, Err, refl, ◌∙◌}
use Rattle.book.proofs.expansion.put_step.Goals as goal

pub returns-clause-put : goal.returns-clause-put
returns-clause-put g c = rw c.in-Ok.ensures.step (
  record { thread = c.args.thread; state = c.in-Ok.next; finding = c.in_ok-finding.finding },
  c.push_reserved.ensures.items,
  refl,
  refl,
  c.in_ok-finding.ensures,
  c.in-Ok.ensures.fits,
)

pub returns-in-Err-NotEnabled-clause-put : goal.returns-in-Err-NotEnabled-clause-put
returns-in-Err-NotEnabled-clause-put g c =
    rw (c.step.ensures.no_step.0 (c.in-Err-NotEnabled.is ∙ ap Err c.in-Err-NotEnabled.field-0-is)) refl
