use Rattle.std.proofs.Common.{sym, subst₂}
use Rattle.lin.specs.Progress.{AreBarred}
use Rattle.lin.proofs.Completions.{Completes-linearization, IsLinearization-completes}
use Rattle.lin.proofs.searcher.judge_counted.Goals as goal

pub complete-requires-clause-barred : goal.complete-requires-clause-barred
complete-requires-clause-barred c =
    subst₂ (AreBarred c.new-timeline.result) (sym c.empty.ensures) (sym c.empty-2.ensures)
    (λ a has. (λ h. absurd cc, λ ended. absurd (cc ended.1)))

pub returns-then-branch-clause-found : goal.returns-then-branch-clause-found
returns-then-branch-clause-found c =
    let found = rw (
      c.if-branch.true,
      c.in_ok-order.ensures.items,
      c.of.ensures,
      c.initial.ensures.value,
      c.new-timeline.ensures,
    ) at c.in_ok-complete.ensures.answer in
    rw found.1 (Completes-linearization c.args.program.now c.args.history.now found.0 found.2)

pub returns-else-branch-clause-none : goal.returns-else-branch-clause-none
returns-else-branch-clause-none c =
    let none = rw (
      c.if-branch.false,
      c.in_ok-order.ensures.items,
      c.of.ensures,
      c.initial.ensures.value,
      c.new-timeline.ensures,
    ) at c.in_ok-complete.ensures.answer in
    λ some. none.1 some.0 (IsLinearization-completes c.args.program.now c.args.history.now some.0 some.1)

pub returns-then-branch-clause-none : goal.returns-then-branch-clause-none
returns-then-branch-clause-none c = tt
