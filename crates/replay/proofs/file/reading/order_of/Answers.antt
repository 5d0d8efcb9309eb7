use Rattle.std.proofs.Common.{◌≢◌, length, arith}
use Rattle.std.proofs.lemmas.Bool.Decides.{nat_tests}
use Rattle.replay.proofs.Text.Orders.{order_push, no_name, no_comma}
use Rattle.replay.proofs.file.reading.order_of.Goals as goal

pub returns-in_default-name_of-clause-none : goal.returns-in_default-name_of-clause-none
returns-in_default-name_of-clause-none c =
    no_name c.loop-tail.invariant c.in-Some-after_comma.ensures.found c.in_default-name_of.ensures.none

pub loop-tail-preserved : goal.loop-tail-preserved
loop-tail-preserved c =
    let name = c.in-Some-name_of.ensures.found in
    rw c.in_ok-push-2.ensures
    (order_push c.loop-tail.invariant c.in-Some-after_comma.ensures.found name.1 name.0)

pub returns-else-is_empty-clause-none : goal.returns-else-is_empty-clause-none
returns-else-is_empty-clause-none c =
    let some : length c.loop-tail.rest.now ≢ 0 = grind (arith, nat_tests, c.if-is_empty.ensures) in
    no_comma c.loop-tail.invariant some c.in_default-after_comma.ensures.none
