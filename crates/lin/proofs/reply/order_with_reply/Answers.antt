use Rattle.std.proofs.Common.{◌≡◌, Option, Some, None, MatchOption, sym, ◌∙◌, arith}
use Rattle.sched_program.specs.Laws.Exact.{bool_exact}
use Rattle.lin.specs.Keys.{keys_of}
use Rattle.lin.proofs.Bounds.{at_most_twelve}
use Rattle.lin.proofs.Places.{reply_placed}
use Rattle.lin.proofs.Replies.{reply_keeps, kept_reply, not_same}
use Rattle.lin.proofs.reply.order_with_reply.Goals as goal
use Rattle.lin.proofs.reply.order_with_reply.Goals.{in_default-via-in-Some+else-stated-reply, in_default-via-in_default}

pub ending_with-requires : goal.ending_with-requires
ending_with-requires c =
    reply_placed c.args.program.now c.initial.ensures.limits (keys_of c.args.program.now.initial) c.as_slice.result.now
    c.args.name c.in-Some.stated (sym c.reply_in.ensures ∙ c.in-Some.is)

-- what follows of either answer
matched : {X N M : Type 0} {P Q : X → Type 0} (o : Option X) → (N → M) → ((x : X) → P x → Q x) → MatchOption o N P
    → MatchOption o M Q
matched None none some h = none h
matched (Some x) none some h = some x h

pub returns-in-Some : goal.returns-in-Some
returns-in-Some c =
    let stated : c.in-Some.stated ≡ c.args.reply = bool_exact _ _ c.if-stated-reply.true in
    let replies = rw (c.as_slice.ensures, stated) at (sym c.reply_in.ensures ∙ c.in-Some.is) in
    matched c.ending_with.result
    (λ long old new is was now. omega (arith, long, at_most_twelve _ c.initial.ensures.limits new _ now))
    (λ longer same. (same, λ old new is was. rw same (reply_keeps _ old new _ _ is c.args.order.now was replies)))
    c.ending_with.ensures

pub returns-in_default : goal.returns-in_default
returns-in_default c = λ old new is was now.
    let stated : c.reply_in.result ≡ Some c.args.reply =
    (rw c.as_slice.ensures at c.reply_in.ensures)
    ∙ kept_reply c.args.program.now old new c.args.name c.args.reply is _ now in
    elim c.in_default.branch [
      | in_default-via-in-Some+else-stated-reply w
          ↦ not_same w.in-Some.stated c.args.reply w.if-stated-reply.false (cc)
      | in_default-via-in_default w ↦ w.in_default.not-Some c.args.reply stated
    ]
