-- The step appended for the decoded state is right for each state with the label, and the decoded state is what it was.
use Rattle.std.proofs.Common.{ap, refl, Err, sym, ◌∙◌}
use Rattle.tree_machine.proofs.Forms.{numbers_fit}
use Rattle.replay.specs.Findings.{IsFindingOf}
use Rattle.book.specs.Labels.{label_by}
use Rattle.book.proofs.Lent.{found_or}
use Rattle.book.proofs.StandingIn.{puts_none, puts_twin}
use Rattle.book.proofs.in_place.put_step_here.Goals as goal

-- a state with the label that is known fits the program
pub label_after-requires-clause-coded : goal.label_after-requires-clause-coded
label_after-requires-clause-coded g c κs within =
    let from = c.from.inside in
    let some = c.from.invariant in
    rw c.naming-naming.ensures (
      some.state,
      numbers_fit (g.M.Machine.rules from.key.machine) from.key.program.now some.state some.fits,
      c.as_slice.ensures ∙ sym some.label,
    )

pub returns-clause-put : goal.returns-clause-put
returns-clause-put g c =
    let bound = g.met.M.Machine g.world.𝓛 g.world.𝓜 g.world.𝓡 ((λ s x. x), (λ x. x), (λ x. x), λ x. x) in
    let from = c.from.inside in
    let rules = g.M.Machine.rules from.key.machine in
    let form_of = g.M.Machine.form_of from.key.machine in
    let source = rw (← c.from.view_is) at c.requires.source in
    let next = c.step_here.new.self in
    let right = IsFindingOf {Machine = g.row.M.Denot} {Form = g.row.M-Form.Denot} rules from.key.program.now in
    rw (← c.from.view_is) (λ of fits is. puts_twin rules from.key.program.now form_of (bound.lawful from.key.machine)
    (bound.forms from.key.machine) from.key.merge of c.args.state.now c.args.thread fits source.fits
    (source.counts of fits is) next
    c.in-Ok.ensures.step g.M.Encode.own_code g.M.Encode.form_code _ _
    (record { thread = c.args.thread; state = c.new.result; finding = c.unwrap_or.result })
    c.push_reserved.ensures.items refl
    (c.new.ensures ∙ (rw c.naming-naming.ensures at c.in_ok-label.ensures)) c.in-Ok.ensures.fits
    (rw c.unwrap_or.ensures
    (found_or (right next) c.in_ok-found.found _ c.in_ok-found.ensures.some c.in_ok-found.ensures.none)))

pub returns-in-Err-NotEnabled-clause-put : goal.returns-in-Err-NotEnabled-clause-put
returns-in-Err-NotEnabled-clause-put g c =
    let bound = g.met.M.Machine g.world.𝓛 g.world.𝓜 g.world.𝓡 ((λ s x. x), (λ x. x), (λ x. x), λ x. x) in
    let from = c.from.inside in
    let form_of = g.M.Machine.form_of from.key.machine in
    let source = rw (← c.from.view_is) at c.requires.source in
    rw (← c.from.view_is) (λ of fits is. puts_none (g.M.Machine.rules from.key.machine) from.key.program.now form_of
    (bound.lawful from.key.machine) (bound.forms from.key.machine) from.key.merge of c.args.state.now c.args.thread fits
    source.fits (source.counts of fits is)
    (label_by g.M.Encode.own_code g.M.Encode.form_code form_of from.key.merge) _ _
    (c.step_here.ensures.no_step.0 (c.in-Err-NotEnabled.is ∙ ap Err c.in-Err-NotEnabled.field-0-is)) refl)
