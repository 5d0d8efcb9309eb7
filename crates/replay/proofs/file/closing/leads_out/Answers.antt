use Rattle.std.proofs.Common.{◌≡◌, ◌<◌, ◌≤◌, length, ap, arith, ◌∙◌}
use borrow.Author.Count.{below_more}
use Rattle.tree_machine.specs.Step.{step}
use Rattle.replay.specs.Labels.{named_by}
use Rattle.replay.proofs.BookFile.Known.{IsStepKnown, line_known}
use Rattle.replay.proofs.BookFile.Replayed.{count_labels, machine}
use Rattle.replay.proofs.file.closing.leads_out.Goals as goal

pub knows_step-requires-clause-fits : goal.knows_step-requires-clause-fits
knows_step-requires-clause-fits g c κs within =
    let w = c.requires.stands c.requires.kept.states c.requires.kept.replayed in
    rw c.loop-thread.invariant.0 w.2.fits

pub knows_step-requires-clause-steps_fit : goal.knows_step-requires-clause-steps_fit
knows_step-requires-clause-steps_fit g c κs within =
    let w = c.requires.stands c.requires.kept.states c.requires.kept.replayed in
    let bounded : c.args.replayer.now.state.steps ≤ c.args.index = w.2.steps in
    let below : c.args.index < length c.args.labels.now = c.requires.within in
    let most : length c.args.input.now.lines.now < 2000000 = c.requires.bounded in
    rw c.loop-thread.invariant.0 (omega (arith, count_labels c.requires.kept))

pub loop-thread-preserved-then-has_step : goal.loop-thread-preserved-then-has_step
loop-thread-preserved-then-has_step g c =
    let bound = g.met.M.Machine g.world.𝓛 g.world.𝓜 g.world.𝓡 ((λ s x. x), (λ x. x), (λ x. x), λ x. x) in
    let input = c.args.input.now in
    let rules = g.M.Machine.rules input.machine in
    let state = c.args.replayer.now.state in
    let stated = c.has_step.ensures c.if-has_step.true in (
      c.loop-thread.invariant.0,
      below_more (IsStepKnown rules input.program.now
          (named_by g.M.Encode.form_code (g.M.Machine.form_of input.machine)) c.args.labels.now state)
          c.loop-thread.thread c.loop-thread.invariant.1
          (λ next leads. line_known (bound.lawful input.machine) c.threads.ensures.limits (bound.forms input.machine)
          g.M.Encode.form_code c.requires.kept c.loop-thread.next stated.0 stated.1 state
          (rw stated.2 c.requires.stands) next (ap (step rules input.program.now state) stated.3 ∙ leads)),
      c.loop-thread.invariant.2,
    )

pub returns-clause-none : goal.returns-clause-none
returns-clause-none g c =
    let bound = g.met.M.Machine g.world.𝓛 g.world.𝓜 g.world.𝓡 ((λ s x. x), (λ x. x), (λ x. x), λ x. x) in
    let input = c.args.input.now in
    let least : length c.threads.result.now ≤ c.loop-thread.thread = c.loop-thread-test.false in
    let all : length c.threads.result.now ≡ length input.program.now.threads = ap length c.threads.ensures.value in
    λ _ t next leads.
    let thread =
    (machine (bound.lawful input.machine) c.threads.ensures.limits).is_thread c.args.replayer.now.state next t leads in
    c.loop-thread.invariant.1 t (omega arith) next leads

pub returns-then-not-branch-clause-out : goal.returns-then-not-branch-clause-out
returns-then-not-branch-clause-out g c =
    let w = rw c.loop-thread.invariant.0 at (c.in_ok-knows_step.ensures.new c.if-not-branch.true) in
    λ _. (c.loop-thread.thread, w.0, w.1, w.2)

pub returns-then-not-branch-clause-source : goal.returns-then-not-branch-clause-source
returns-then-not-branch-clause-source g c =
    rw (c.in_ok-knows_step.ensures.source, c.in_ok-knows_step.ensures.state) c.loop-thread.invariant.2
