-- Where the operation is in the order, it replies as on the keys that those before it leave.
use Rattle.std.proofs.Common.{◌≡◌, true, get_or, sym, ◌∙◌, rules, drop-cons}
use Rattle.sched_program.specs.Name.{same_name}
use Rattle.lin.proofs.reply.reply_in.Goals as goal

pub returns-then-eq : goal.returns-then-eq
returns-then-eq c =
    let order = c.args.order.now in
    let i = c.loop-other.other-index in
    let other = c.name-other.result in
    let same : same_name other c.args.name ≡ true = search rules in
    let here : get_or order i other ≡ other = search rules in
    let rest = rw (drop-cons order i other c.loop-other-test.true, here, same) at c.loop-other.invariant in
    c.stated.ensures ∙ sym rest
