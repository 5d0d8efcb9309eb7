use Rattle.serde_json.specs.View.{view}
use Rattle.sched_program.specs.Faults.{IsListWithin}
use Rattle.sched_program.proofs.Values.{of_member}
use Rattle.sched_program.proofs.text.list_member.Goals as goal

pub returns-in_default-list_len-clause-none : goal.returns-in_default-list_len-clause-none
returns-in_default-list_len-clause-none c = λ has.
    let list =
    of_member (IsListWithin c.args.least c.args.most) c.args.name.now (view c.args.value.now)
    (view c.in-Some.member.now) c.in-Some.ensures has in
    c.in_default-list_len.ensures.none list.0 list.1
