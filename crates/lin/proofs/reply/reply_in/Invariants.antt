use Rattle.std.proofs.Common.{◌≡◌, drop}
use Rattle.lin.specs.Keys.{keys_of}
use Rattle.lin.specs.KeySet.{keys_in}
use Rattle.lin.specs.Reply.{reply_in}
use Rattle.lin.proofs.reply.reply_in.Given as goal

-- what the operation replies is what it replies in the rest, on the keys that those before it leave
abbrev pub invariant-loop-other : goal.invariant-loop-other
invariant-loop-other l =
    reply_in l.program (keys_of l.program.initial) l.order l.name
    ≡ reply_in l.program (keys_in l.keys) (drop l.other-index l.order) l.name
