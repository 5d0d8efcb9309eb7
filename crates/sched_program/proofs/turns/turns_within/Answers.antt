use Rattle.serde_json.specs.View.{view}
use Rattle.sched_program.proofs.Waiting.{nowhere_within, not_within}
use Rattle.sched_program.proofs.turns.turns_within.Goals as goal

pub returns-in_default-clause-none : goal.returns-in_default-clause-none
returns-in_default-clause-none c =
    nowhere_within (view c.args.value.now) c.args.version c.args.threads.now c.requires.version c.requires.threads
    (λ turns has. absurd ((rw c.in_default.is at c.in_ok-turns.ensures.none) turns has))

pub returns-then-not-are_turns_within-clause-none : goal.returns-then-not-are_turns_within-clause-none
returns-then-not-are_turns_within-clause-none c =
    not_within (view c.args.value.now) c.args.version c.args.threads.now c.requires.version c.requires.threads
    c.in-Some.turns
    (rw c.in-Some.is at c.in_ok-turns.ensures.found)
    (rw c.as_slice.ensures at c.if-not-are_turns_within.ensures)
