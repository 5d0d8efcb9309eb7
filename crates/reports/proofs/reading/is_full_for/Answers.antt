use Rattle.std.proofs.Common.{◌∙◌, ap, arith, sym, rules}
use Rattle.tree_machine.specs.declared.state.State.{State}
use Rattle.book.specs.Entries.{IsOwn}
use Rattle.reports.proofs.Drives.{expansion_in, own_of}
use Rattle.reports.proofs.ReadOff.{IsKnown, entry_steps, not_entered}
use Rattle.reports.proofs.reading.is_full_for.Given.{Over}
use Rattle.reports.proofs.reading.is_full_for.Goals.{After-enter}
use Rattle.reports.proofs.reading.is_full_for.Goals as goal

pub of-requires-clause-steps_fit : goal.of-requires-clause-steps_fit
of-requires-clause-steps_fit g c κs within =
    let known : IsKnown g.M.Machine.rules c.args.book.now = search rules in
    let own = c.requires.own in
    let steps =
    ap (λ (q : State g.row.M.Denot g.row.M-Mem.Denot g.row.M-Loc.Denot g.row.M-Form.Denot). q.steps) own.2 in
    omega (arith, steps, entry_steps known c.args.id own.0 own.1, known.law.limit)

-- the steps are those of the entry
own : (g : Over) (c : After-enter g)
    → IsOwn {X = g.row.M.Denot} c.args.book.now c.args.id c.in_ok-expansion.expansion.machine
    c.in_ok-expansion.expansion.program c.in_ok-expansion.expansion.source
own g c =
    let e = c.requires.own in
    let x = c.in_ok-expansion.expansion in
    own_of {X = g.row.M.Denot} c.args.book.now c.args.id e.0 e.1 x.machine x.program x.source
    (c.in_ok-expansion.ensures.machine ∙ c.machine.ensures) (c.in_ok-expansion.ensures.program ∙ c.requires.program)
    (c.in_ok-expansion.ensures.source ∙ sym e.2)

pub returns-in-Err-Full-clause-full : goal.returns-in-Err-Full-clause-full
returns-in-Err-Full-clause-full g c =
    let x = c.in_ok-expansion.expansion in
    let refused = rw c.in-Err-Full.field-0-is at c.in-Err-Full.ensures.refused in
    let e = refused.0 in
    let its = refused.1 in
    λ _. record {
      entry = e.0;
      at = e.1;
      taken = e.2;
      successors = x.successors;
      expansion =
          expansion_in g.M.Machine.rules c.args.book.now x e.0.state its.machine its.program (its.source e.0 e.1)
          c.law-2.ensures;
      full = refused.2;
    }

pub returns-in-Err-NotTaken-clause-yes : goal.returns-in-Err-NotTaken-clause-yes
returns-in-Err-NotTaken-clause-yes g c =
    let refused = rw c.in-Err-NotTaken.field-0-is at c.in-Err-NotTaken.ensures.refused in
    λ full. absurd (refused (full.entry, full.at, full.taken))

pub returns-in-Err-Stranger-clause-yes : goal.returns-in-Err-Stranger-clause-yes
returns-in-Err-Stranger-clause-yes g c =
    let refused = rw c.in-Err-Stranger.field-0-is at c.in-Err-Stranger.ensures.refused in
    λ _. absurd (refused.1 (own g (goal.at.returns-in-Err-Stranger-clause-yes g c).After-enter))

pub returns-in-Ok-clause-yes : goal.returns-in-Ok-clause-yes
returns-in-Ok-clause-yes g c =
    let x = c.in_ok-expansion.expansion in
    let known : IsKnown g.M.Machine.rules c.args.book.now = search rules in
    let its = own g (goal.at.returns-in-Ok-clause-yes g c).After-enter in
    λ full. absurd (
    let expansion =
    expansion_in g.M.Machine.rules c.args.book.now x full.entry.state its.machine its.program
    (its.source full.entry full.at) c.law-2.ensures in
    not_entered known full.expansion expansion full.full c.in-Ok.ensures.entered)
