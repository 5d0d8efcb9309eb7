use Rattle.serde_json.specs.View.{view}
use Rattle.sched_program.specs.declared.version.Version.TheVariants as version
use Rattle.sched_program.proofs.Waiting.{unlisted}
use Rattle.sched_program.proofs.turns.turns_of.Goals as goal

pub returns-in-First-clause-none : goal.returns-in-First-clause-none
returns-in-First-clause-none c =
    unlisted c.args.version version.First (view c.args.value.now) _ _ c.in-First.is c.in-Some.ensures
    c.read.ensures.none

pub returns-in-Second-clause-none : goal.returns-in-Second-clause-none
returns-in-Second-clause-none c =
    unlisted c.args.version version.Second (view c.args.value.now) _ _ c.in-Second.is c.in-Some.ensures
    c.read-in-Second.ensures.none
