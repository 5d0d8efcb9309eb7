-- The steps are put thread by thread.
use Rattle.std.proofs.Common.{◌≡◌, length, ap, arith, refl}
use Rattle.book.proofs.ThreadSteps.{front_none, front_put}
use Rattle.book.proofs.expansion.Expansion.of.Goals as goal

pub loop-thread-init : goal.loop-thread-init
loop-thread-init g c =
    record {
      front = rw c.in_ok-successors.ensures.items (front_none _ _ c.args.state.now refl);
      len = omega (arith, ap length c.in_ok-successors.ensures.items, c.in_ok-successors.successors.ok.0);
      room = c.in_ok-successors.ensures.capacity;
    }

-- a thread that is enabled adds its step, and another adds none
pub loop-thread-preserved : goal.loop-thread-preserved
loop-thread-preserved g c =
    record {
      front = front_put _ _ c.args.state.now c.loop-thread.successors.items c.put_step.new.steps.items _ refl
          c.loop-thread.invariant.front c.in_ok-put_step.ensures.put;
      len = omega (arith, c.in_ok-put_step.ensures.len, c.loop-thread.invariant.len);
      room = omega (arith, c.in_ok-put_step.ensures.capacity, c.loop-thread.invariant.room);
    }

pub invariant_of-result : goal.invariant_of-result
invariant_of-result g c =
    let all = ap length c.threads-threads.ensures.value in
    let done : c.loop-thread.thread ≡ length c.args.program.now.threads =
    omega (arith, c.loop-thread.auto.thread-end, c.loop-thread-test.false, all) in
    (rw done at c.loop-thread.invariant.front, c.in_ok-code.ensures)
