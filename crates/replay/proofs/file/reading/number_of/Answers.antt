use Rattle.std.proofs.Common.{◌≡◌, ◌≤◌, length, get_or, arith}
use Rattle.std.proofs.lemmas.Bool.Decides.{nat_tests}
use Rattle.replay.proofs.Text.Numbers.{read_digit, read_number, no_number}
use Rattle.replay.proofs.file.reading.number_of.Goals as goal
use Rattle.replay.proofs.file.reading.number_of.Goals.{then-text-gt1, else-text-gt1}

pub loop-digit-init : goal.loop-digit-init
loop-digit-init c = record { digits = tt; is = omega arith }

pub returns-then-digit-lt48-clause-none : goal.returns-then-digit-lt48-clause-none
returns-then-digit-lt48-clause-none c =
    no_number c.args.text.now c.loop-digit.digit-index c.loop-digit-test.true (grind arith)

pub loop-digit-preserved : goal.loop-digit-preserved
loop-digit-preserved c =
    read_digit c.loop-digit.invariant c.loop-digit-test.true c.if-digit-lt48.false c.if-digit-gt57.false
    (grind (arith, c.from.ensures))

pub returns-clause-found : goal.returns-clause-found
returns-clause-found c =
    let some : 1 ≤ length c.args.text.now = grind (arith, nat_tests, c.if-is_empty.ensures) in
    let first : get_or c.args.text.now 0 0 ≡ 48 → length c.args.text.now ≡ 1 =
    elim c.if-text-gt1.branch [ then-text-gt1 w ↦ grind (arith, nat_tests) | else-text-gt1 w ↦ λ zero. omega arith ] in
    read_number c.loop-digit.invariant (omega arith) some first
