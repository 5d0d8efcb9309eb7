use Rattle.std.proofs.Common.{ap, refl, sym, ◌∙◌}
use Rattle.replay.specs.Findings.{machine_of}
use Rattle.replay.specs.Schedule.{after}
use Rattle.replay.proofs.BookFile.Twins.{run_stands_for, source_stands_for}
use Rattle.replay.proofs.file.recalling.recall.Goals as goal

pub returns-then-branch-clause-stands : goal.returns-then-branch-clause-stands
returns-then-branch-clause-stands g c =
    let bound = g.met.M.Machine g.world.𝓛 g.world.𝓜 g.world.𝓡 ((λ s x. x), (λ x. x), (λ x. x), λ x. x) in
    let input = c.args.input.now in
    source_stands_for (bound.lawful input.machine) (bound.forms input.machine) c.initial.ensures.limits
    input.lines.now c.args.index g.M.Encode.form_code c.requires.kept g.M.Encode.front_code g.M.Encode.behind_code
    c.decode.new.self.source c.decode.new.self.state c.in_ok-decode.ensures.source
    (c.in_ok-decode.ensures.decoded c.if-branch.true) c.decoded_law.ensures.named

pub returns-clause-stands : goal.returns-clause-stands
returns-clause-stands g c =
    let bound = g.met.M.Machine g.world.𝓛 g.world.𝓜 g.world.𝓡 ((λ s x. x), (λ x. x), (λ x. x), λ x. x) in
    let input = c.args.input.now in
    let m =
    machine_of {Machine = g.row.M.Denot} {Form = g.row.M-Form.Denot} (g.M.Machine.rules input.machine)
    input.program.now in
    run_stands_for (bound.lawful input.machine) (bound.forms input.machine) c.initial.ensures.limits
    input.lines.now c.args.index c.in_ok-way.way.items c.in_ok-replayer.field-0 c.in_ok-way.ensures
    (ap (after m) (sym c.as_slice.ensures.value) ∙ c.in_ok-replayer.ensures.state)
    c.in_ok-replayer.ensures.fits

pub state_after-requires-clause-leads : goal.state_after-requires-clause-leads
state_after-requires-clause-leads g c κs within =
    let leads = c.in_ok-way.ensures c.requires.kept.states c.requires.kept.replayed in
    rw (c.as_slice.ensures.value, leads.2) refl
