use Rattle.std.proofs.Common.{◌≡◌, false, true, IfSome, rules, sym, subst₂}
use Rattle.sched_program.specs.declared.operation.OpId.{OpId}
use Rattle.sched_program.specs.History.{EndedBefore}
use Rattle.lin.specs.Completion.{with_name}
use Rattle.lin.specs.KeySet.{keys_in}
use Rattle.lin.specs.OpSet.{operations_in}
use Rattle.lin.specs.Progress.{AreBarred}
use Rattle.lin.proofs.Steps.{barred_more}
use Rattle.lin.proofs.progress.step.Goals as goal

pub returns-in_default-clause-barred : goal.returns-in_default-clause-barred
returns-in_default-clause-barred c =
    subst₂ (AreBarred c.args.timeline.now) (sym c.with.ensures) (sym c.union.ensures)
    (barred_more c.args.timeline.now _ _ _ c.args.name c.requires.barred c.before-before.ensures)

pub returns-in_default-clause-stands : goal.returns-in_default-clause-stands
returns-in_default-clause-stands c =
    let listed = operations_in c.args.from.at.listed in
    let name = c.args.name in
    let due : (listed name ≡ false)
    × ((b : OpId) → with_name listed name b ≡ true → EndedBefore c.args.timeline.now name b → ⊥) = search rules in
    let replies : IfSome c.reply.result (λ r. r ≡ c.reply_to-stated.result) = search rules in
    record {
      begun = c.requires.begun;
      new = due.0;
      in_time = due.1;
      gives = rw (← c.in_ok-operation.ensures)
          (rw (← c.reply.ensures, ← c.reply_to-stated.ensures) replies, c.after.ensures);
    }

pub returns-then-not-is_due-clause-stands : goal.returns-then-not-is_due-clause-stands
returns-then-not-is_due-clause-stands c =
    let late : c.is_due.result ≡ false = search rules in
    (rw late at c.is_due.ensures) c.args.program.now (keys_in c.args.from.at.keys)
