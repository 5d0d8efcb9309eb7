-- The steps are appended thread by thread, and after each the state is what it was.
use Rattle.std.proofs.Common.{◌≡◌, length, ap, refl, arith, ◌∙◌}
use Rattle.book.proofs.ThreadSteps.{front_by_none, front_by_put}
use Rattle.book.proofs.in_place.steps_here.Goals as goal

pub loop-thread-init : goal.loop-thread-init
loop-thread-init g c =
    record {
      state = refl;
      front = (λ of fits is. rw c.in_ok-steps.ensures.list (front_by_none _ _ of _ refl));
      len = omega (arith, ap length c.in_ok-steps.ensures.list, c.in_ok-steps.steps.ok.0);
      room = c.in_ok-steps.ensures.room;
    }

pub put_step_here-requires-clause-source : goal.put_step_here-requires-clause-source
put_step_here-requires-clause-source g c κs within = rw c.loop-thread.invariant.state c.requires

-- a thread that is enabled adds its step, and another adds none
pub loop-thread-preserved : goal.loop-thread-preserved
loop-thread-preserved g c =
    record {
      state = c.in_ok-put_step_here.ensures.state ∙ c.loop-thread.invariant.state;
      front = (λ of fits is. front_by_put _ _ of _ c.loop-thread.steps.items c.put_step_here.new.steps.items _ refl
          (c.loop-thread.invariant.front of fits is)
          (c.in_ok-put_step_here.ensures.put of fits is));
      len = omega (arith, c.in_ok-put_step_here.ensures.len, c.loop-thread.invariant.len);
      room = omega (arith, c.in_ok-put_step_here.ensures.capacity, c.loop-thread.invariant.room);
    }

pub returns-clause-steps : goal.returns-clause-steps
returns-clause-steps g c =
    let threads = c.args.from.now.key.program.threads in
    let all : length c.threads-threads.result.now ≡ length threads =
    rw (← c.from.view_is) (ap length c.threads-threads.ensures.value) in
    let done : c.loop-thread.thread ≡ length threads =
    omega (arith, c.loop-thread.auto.thread-end, c.loop-thread-test.false) in
    λ of fits is. rw done at (c.loop-thread.invariant.front of fits is)

pub returns-clause-state : goal.returns-clause-state
returns-clause-state g c = c.loop-thread.invariant.state
