use Rattle.std.proofs.Common.{◌≡◌, ◌<◌, ◌≤◌, inl, inr, length, Err, None, ap, ◌∙◌, arith}
use Rattle.std.proofs.lemmas.Result.{err_from_is_err_and}
use Rattle.tree_machine.specs.Step.{step}
use Rattle.replay.proofs.BookFile.Twins.{no_step, step_amiss, step_passes}
use Rattle.replay.proofs.BookFile.Replayed.{same_count}
use Rattle.replay.proofs.file.replaying.label_of_line.Goals as goal

pub step_here-requires-clause-fits : goal.step_here-requires-clause-fits
step_here-requires-clause-fits g c κs within =
    let w = c.in_ok-recall.ensures.stands c.requires.kept.states c.requires.kept.replayed in w.2.fits

pub step_here-requires-clause-steps_fit : goal.step_here-requires-clause-steps_fit
step_here-requires-clause-steps_fit g c κs within =
    let w = c.in_ok-recall.ensures.stands c.requires.kept.states c.requires.kept.replayed in
    let bounded : c.recall.new.replayer.state.steps ≤ c.args.line.now.parent = w.2.steps in
    let less : c.args.line.now.parent < c.len.result = c.if-parent-len.false in
    let all : c.len.result ≡ length c.args.before.now = c.len.ensures in
    let most : length c.args.before.now < 2000000 = c.requires.bounded in
    omega arith

pub returns-then-parent-len-clause-amiss : goal.returns-then-parent-len-clause-amiss
returns-then-parent-len-clause-amiss g c = inr (λ states so.
    let all : length c.args.before.now ≡ length states = same_count c.requires.kept states so in
    let past : c.len.result ≤ c.args.line.now.parent = c.if-parent-len.true in
    inl (rw (c.len-number.ensures, all), omega (arith, c.len.ensures)))

pub returns-in-Err-NotEnabled-clause-amiss : goal.returns-in-Err-NotEnabled-clause-amiss
returns-in-Err-NotEnabled-clause-amiss g c =
    let bound = g.met.M.Machine g.world.𝓛 g.world.𝓜 g.world.𝓡 ((λ s x. x), (λ x. x), (λ x. x), λ x. x) in
    let input = c.args.input.now in
    let none : step (g.M.Machine.rules input.machine) input.program.now c.recall.new.replayer.state
    c.args.line.now.thread
    ≡ None = c.step_here.ensures.no_step.0 (c.in-Err-NotEnabled.is ∙ ap Err c.in-Err-NotEnabled.field-0-is) in
    inr (λ states so. no_step (bound.lawful input.machine) c.initial.ensures.limits (bound.forms input.machine)
    input.lines.now c.args.line.now c.recall.new.replayer.state c.in_ok-recall.ensures.stands states so
    (c.len-number.ensures ∙ same_count c.requires.kept states so) none)

pub test_step-requires-clause-stands : goal.test_step-requires-clause-stands
test_step-requires-clause-stands g c κs within = rw c.of-source.ensures c.in_ok-recall.ensures.stands

pub returns-in_err-test_step-clause-amiss : goal.returns-in_err-test_step-clause-amiss
returns-in_err-test_step-clause-amiss g c =
    let bound = g.met.M.Machine g.world.𝓛 g.world.𝓜 g.world.𝓡 ((λ s x. x), (λ x. x), (λ x. x), λ x. x) in
    let input = c.args.input.now in
    let p = err_from_is_err_and c.from_residual-in_err-test_step.result c.from_residual-in_err-test_step.ensures.1 in
    rw (p.1, p.2) (elim c.in_err-test_step.ensures.unshown [
      | inl memory ↦ inl memory
      | inr unshown ↦ inr (λ states so. step_amiss (bound.lawful input.machine) c.initial.ensures.limits
          (bound.forms input.machine) input.lines.now c.args.line.now c.recall.new.replayer.state
          c.in_ok-recall.ensures.stands states
          so c.step_here.new.self c.in-Ok.ensures.step (c.len-number.ensures ∙ same_count c.requires.kept states so)
          c.in_err-test_step.field-0.0 unshown)
    ])

pub returns-clause-tells : goal.returns-clause-tells
returns-clause-tells g c states so =
    let bound = g.met.M.Machine g.world.𝓛 g.world.𝓜 g.world.𝓡 ((λ s x. x), (λ x. x), (λ x. x), λ x. x) in
    let input = c.args.input.now in
    step_passes (bound.lawful input.machine) c.initial.ensures.limits (bound.forms input.machine) input.lines.now
    c.args.line.now c.recall.new.replayer.state c.in_ok-recall.ensures.stands states so c.step_here.new.self
    c.in-Ok.ensures.step
    g.M.Encode.form_code c.in_ok-label.label c.in_ok-label.ensures.label
    c.in_ok-test_step.ensures.shown
