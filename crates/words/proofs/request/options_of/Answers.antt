use Rattle.std.proofs.Common.{arith}
use Rattle.words.proofs.request.options_of.Goals as goal

pub returns-in_err-number : goal.returns-in_err-number
returns-in_err-number c =
    rw c.from_residual.ensures
    (λ options are. c.in_err-number.ensures options.steps (omega (arith, are.range.steps)) are.steps)

pub returns-in_err-number-2 : goal.returns-in_err-number-2
returns-in_err-number-2 c =
    rw c.from_residual-in_err-number-2.ensures
    (λ options are. c.in_err-number-2.ensures options.workers (omega (arith, are.range.workers)) are.workers)

pub returns-in_err-number-3 : goal.returns-in_err-number-3
returns-in_err-number-3 c =
    rw c.from_residual-in_err-number-3.ensures
    (λ options are. c.in_err-number-3.ensures options.limit (omega (arith, are.range.limit)) are.limit)
