use Rattle.std.proofs.Common.{refl, ◌≡◌, ℕ, List, [], ◌∷◌, ◌++◌, ◌∙◌, sym, ap, arith, true≢false}
use Rattle.std.proofs.Common.{append-nil}
use Rattle.sched_program.specs.declared.operation.OpId.{OpId}
use Rattle.lin.specs.Completion.{listed_in, IsHopeless}
use Rattle.lin.specs.KeySet.{keys_in}
use Rattle.lin.specs.Configuration.{IsHopelessAt}
use Rattle.lin.proofs.Configurations.{All-found, All-kept}
use Rattle.std.proofs.lemmas.List.{take_all}
use Rattle.std.proofs.lemmas.List.Elements.{All-more}
use Rattle.lin.proofs.Names.{IsSome-value_at}
use Rattle.lin.proofs.Search.{CannotComeNext, once_pushed, nothing_left, found_more, not_after, popped}
use Rattle.lin.proofs.Steps.{every_listed}
use Rattle.lin.proofs.searcher.+complete.Goals as goal
use Rattle.lin.proofs.searcher.+complete.Goals.{in-Some+in_ok-push+in_ok-complete+else-branch, in_default}

pub returns-then-is_within-clause-answer : goal.returns-then-is_within-clause-answer
returns-then-is_within-clause-answer t c =
    let listed = every_listed c.args.timeline.now _ _ _ c.finished.ensures.value c.requires.listed in
    ([], sym (append-nil c.args.order.now.items), listed.0 (c.is_within.ensures.0 c.if-is_within.true))

pub returns-then-contains-clause-answer : goal.returns-then-contains-clause-answer
returns-then-contains-clause-answer t c =
    let none =
    All-found (IsHopelessAt c.args.program.now c.args.timeline.now) c.args.from.at c.args.failed.now.keys
    c.requires.failed (sym c.contains.ensures ∙ c.if-contains.true) in
    (refl {A = List OpId}, rw c.requires.listed at none)

pub step-requires-clause-begun : goal.step-requires-clause-begun
step-requires-clause-begun t c =
    rw (← c.begun-name-items.ensures.value, c.loop-name-item.is)
    (IsSome-value_at c.begun-name-items.result.now c.loop-name.name-index c.loop-name-item.result c.loop-name-test.true)

pub complete-requires : goal.complete-requires
complete-requires t c =
    let pushed =
    once_pushed c.args.order.now.items c.requires.listed c.in-Some.ensures.stands
    (rw c.loop-name.invariant.same at c.in_ok-push.ensures.items) _ c.in-Some.ensures.listed in (
      rw c.decreases at pushed.0,
      (c.requires.limits, (pushed.1, (c.in-Some.ensures.barred, c.loop-name.invariant.failed))),
    )

pub returns-then-branch-clause-answer : goal.returns-then-branch-clause-answer
returns-then-branch-clause-answer t c =
    found_more c.args.order.now.items c.requires.listed c.in-Some.ensures.stands
    (rw c.loop-name.invariant.same at c.in_ok-push.ensures.items) _
    (rw c.if-branch.true at c.in_ok-complete.ensures.answer)

pub loop-name-preserved : goal.loop-name-preserved
loop-name-preserved t c =
    let old = c.args.order.now.items in
    let name = c.loop-name-item.result.0 in
    let same = c.loop-name.invariant.same in
    let Fails : OpId → Type 0 =
    CannotComeNext c.args.program.now c.args.timeline.now (listed_in old) (keys_in c.args.from.at.keys) in
    let more =
    λ (here : Fails name). All-more (λ e. Fails e.0) c.begun-name-items.result.now c.loop-name.name-index
    c.loop-name-item.result c.loop-name-test.true c.loop-name.invariant.tried (rw (← c.loop-name-item.is) here) in
    elim c.match-step.branch [
      | in-Some+in_ok-push+in_ok-complete+else-branch w ↦
          let pushed : w.push.new.self.items ≡ old ++ name ∷ [] = rw same at w.in_ok-push.ensures.items in
          let none = rw w.if-branch.false at w.in_ok-complete.ensures.answer in
          record {
            same = ap (λ v. v.items) w.order-is ∙ popped _ old _ name w.pop.result w.pop.ensures.items (none.0 ∙ pushed)
                (λ some. w.pop.ensures.variant.1 (omega (arith, w.complete.new.order.ok.0, some)));
            failed = rw w.failed-is w.in_ok-complete.ensures.failed;
            tried = more (not_after old c.requires.listed w.in-Some.ensures.stands pushed none.1);
          }
      | in_default w ↦ record {
        same = ap (λ v. v.items) w.order-is ∙ same;
        failed = rw w.failed-is c.loop-name.invariant.failed;
        tried = more (rw c.requires.listed at w.in_default.ensures.stands);
      }
    ]

hopeless : {t : ℕ} (c : goal.In_ok-insert t)
    → IsHopeless c.args.program.now c.args.timeline.now (listed_in c.args.order.now.items) (keys_in c.args.from.at.keys)
hopeless {t} c =
    let listed = every_listed c.args.timeline.now _ _ _ c.finished.ensures.value c.requires.listed in
    let all = take_all c.loop-name.name-index c.begun-name-items.result.now c.loop-name-test.false in
    nothing_left c.args.program.now c.args.timeline.now (listed_in c.args.order.now.items) (keys_in c.args.from.at.keys)
    (λ every. true≢false (sym (c.is_within.ensures.1 (listed.1 every)) ∙ c.if-is_within.false))
    (rw (all, c.begun-name-items.ensures.value) at c.loop-name.invariant.tried)

pub returns-clause-answer : goal.returns-clause-answer
returns-clause-answer t c = (c.loop-name.invariant.same, hopeless c)

pub returns-clause-failed : goal.returns-clause-failed
returns-clause-failed t c =
    All-kept (IsHopelessAt c.args.program.now c.args.timeline.now) c.args.from.at c.loop-name.failed c.insert.new.self
    c.in_ok-insert.field-0 c.in_ok-insert.ensures.keys (rw c.requires.listed (hopeless c)) c.loop-name.invariant.failed
