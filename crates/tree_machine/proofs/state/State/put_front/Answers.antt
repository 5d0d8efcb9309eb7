-- The bytes of what stayed are those between the offsets.
use Rattle.std.proofs.Common.{arith, append_assoc}
use Rattle.std.proofs.lemmas.Result.{on_ok_weaker}
use Rattle.tree_machine.proofs.Labels.{op_log_piece, memory_piece}
use Rattle.tree_machine.proofs.state.State.put_front.Goals as goal

pub returns-then-did_no_more : goal.returns-then-did_no_more
returns-then-did_no_more g c = grind (arith, on_ok_weaker, op_log_piece)

pub returns : goal.returns
returns g c =
    let stated = memory_piece _ _ _ _ c.requires.offsets c.args.self.now.memory _ _ c.requires.back.same
    (rw c.reads.ensures at c.end-end.ensures) in
    rw (c.in_ok-put_op_log.ensures, c.as_slice.ensures, stated, append_assoc) at c.put_piece-2.ensures
