use Rattle.std.proofs.Common.{codes, inr, refl, sym}
use Rattle.serde_json.specs.View.{view}
use Rattle.sched_program.specs.Text.{IsKey}
use Rattle.sched_program.specs.Faults.{IsShortListOfKeys}
use Rattle.sched_program.proofs.Values.{of_member}
use Rattle.sched_program.proofs.Members.{keys_bounded_within, within}
use Rattle.sched_program.proofs.text.initial_of.Goals as goal

pub returns-in_default-clause-err : goal.returns-in_default-clause-err
returns-in_default-clause-err c =
    inr (refl, λ has. c.in_default.ensures.none (has.0, has.1, keys_bounded_within has.0 has.2))

pub returns-in-Some-2-clause-ok : goal.returns-in-Some-2-clause-ok
returns-in-Some-2-clause-ok c =
    let list = rw c.in-Some-2.is at c.in_ok-keys.ensures.found in
    let bounded = within IsKey (view c.in-Some.member.now) c.in-Some-2.keys 0 12 list c.in-Some.ensures.found.1 in
    ((view c.in-Some.member.now, c.in-Some.ensures.found.0, list), bounded.1)

pub returns-in-None-clause-err : goal.returns-in-None-clause-err
returns-in-None-clause-err c =
    inr (
      refl,
      λ has.
          let bounded =
          of_member IsShortListOfKeys (codes "initial") (view c.args.value.now) (view c.in-Some.member.now)
          (sym c.in-Some.ensures.found.0) has in
          (rw c.in-None.is at c.in_ok-keys.ensures.none) bounded.0 bounded.1,
    )
