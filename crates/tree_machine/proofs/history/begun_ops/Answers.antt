use Rattle.std.proofs.Common.{ap, get_or}
use Rattle.tree_machine.proofs.Runs.{one_thread_more}
use Rattle.tree_machine.proofs.history.begun_ops.Goals as goal

pub loop-t-preserved : goal.loop-t-preserved
loop-t-preserved g c =
    one_thread_more (λ thread. thread.notes) _ c.loop-t-test.true
    (ap (get_or c.args.threads.now c.loop-t.t) c.index-threads-t.is) c.loop-t.invariant c.in_ok-add_begun.ensures
