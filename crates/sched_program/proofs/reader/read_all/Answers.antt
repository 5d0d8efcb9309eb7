use Rattle.sched_program.proofs.Values.{Each-more, Each-none}
use Rattle.sched_program.proofs.reader.read_all.Goals as goal

pub returns-in-None-clause-none : goal.returns-in-None-clause-none
returns-in-None-clause-none g c =
    λ things. Each-none g.R.Reader.stands_for c.args.values.now things c.loop-value.value-index c.value-item.result
    c.loop-value-test.true c.value-item.is (rw c.in-None.is at c.in_ok-thing.ensures.none)

pub loop-value-preserved : goal.loop-value-preserved
loop-value-preserved g c =
    Each-more g.R.Reader.stands_for c.args.values.now c.loop-value.things c.push.new.self c.loop-value.value-index
    c.value-item.result c.in-Some.thing c.loop-value-test.true c.value-item.is c.in_ok-push-in-Some.ensures.ok
    c.loop-value.invariant
    (rw c.in-Some.is at c.in_ok-thing.ensures.found)
