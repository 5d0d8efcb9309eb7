use Rattle.std.proofs.Common.{◌≡◌, true}
use Rattle.std.proofs.lemmas.List.{drop_all, take_all}
use Rattle.lin.specs.Completion.{listed_in}
use Rattle.lin.proofs.Completions.{IsLinearization-completes, Completes-linearization, Completes-more, Completes-stuck}
use Rattle.lin.proofs.Names.{each_named, IsSome-value_at}
use Rattle.lin.proofs.order.check_order.Goals as goal

pub returns-in-None : goal.returns-in-None
returns-in-None c = (
  λ h. absurd cc,
  λ linearization. absurd (Completes-stuck _ _ _ c.loop-i.i _ c.loop-i-test.true _ c.in-None.ensures
      (c.loop-i.invariant.0 (IsLinearization-completes _ _ c.args.order.now linearization))),
)

pub loop-i-preserved : goal.loop-i-preserved
loop-i-preserved c =
    Completes-more _ _ c.args.order.now c.loop-i.i _ c.loop-i-test.true _ _ _ c.in-Some.ensures c.loop-i.invariant

pub returns : goal.returns
returns c =
    let order = c.args.order.now in
    let finished = c.args.history.now.finished in
    let past = c.loop-i-test.false in
    let ends = rw (take_all c.loop-i.i order past, drop_all c.loop-i.i order past) at c.loop-i.invariant in
    let stated = c.lists_every_finished.ensures in (
      λ yes. Completes-linearization _ _ order
          (ends.1 (λ a. each_named (λ b. listed_in order b ≡ true) finished a (stated.0 yes))),
      λ linearization. stated.1 (λ i d within. ends.0 (IsLinearization-completes _ _ order linearization) _
          (IsSome-value_at finished i d within)),
    )
