-- A small power is not cut.
use Rattle.std.proofs.Common.{◌≡◌, ◌≤◌, ◌*◌, ◌^◌, ◌%◌, refl, arith, pow_mono}
use Rattle.tree_machine.proofs.replies.added.Goals as goal

pub returns-then-reply : goal.returns-then-reply
returns-then-reply c =
    let power : 2 ^ c.args.count ≤ 32 = pow_mono {j = 5} (omega (arith, c.requires)) in
    let whole : 2 * 2 ^ c.args.count % 256 ≡ 2 * 2 ^ c.args.count = omega arith in
    rw (whole, c.if-reply.true) refl
