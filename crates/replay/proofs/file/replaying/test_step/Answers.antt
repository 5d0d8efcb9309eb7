-- What shows the parent's state shows the twin that the step was made in.
use Rattle.std.proofs.Common.{◌<◌, ◌≡◌, arith, length, refl, sym}
use Rattle.sched_program.specs.Laws.Exact.{list_exact}
use Rattle.sched_program.specs.contracts.operation.OpIdPartialEq.TheImpl.{eq-value as name_eq}
use Rattle.std.proofs.lemmas.Option.{slice_get_within}
use Rattle.lin.proofs.Names.{same_name-is}
use Rattle.replay.proofs.BookFile.Replayed.{count_states}
use Rattle.replay.proofs.BookFile.Twins.{shown_there}
use Rattle.replay.proofs.file.replaying.test_step.Goals as goal

pub order_of_entry-requires-after_bounds : goal.order_of_entry-requires-after_bounds
order_of_entry-requires-after_bounds g c κs within =
    let input = c.args.input.now in
    let (states, so) = c.requires.kept in
    let w = c.requires.stands states so in
    let counted = count_states (g.M.Machine.rules input.machine) input.program.now input.lines.now states so in
    let within : c.args.line.now.parent < length states = slice_get_within states c.args.line.now.parent w.0 w.1 in
    omega (arith, counted)

pub returns-then-is_still_shown-clause-shown : goal.returns-then-is_still_shown-clause-shown
returns-then-is_still_shown-clause-shown g c =
    let bound = g.met.M.Machine g.world.𝓛 g.world.𝓜 g.world.𝓡 ((λ s x. x), (λ x. x), (λ x. x), λ x. x) in
    let input = c.args.input.now in
    let (states, so) = c.requires.kept in
    let w = c.requires.stands states so in
    let known = c.order_of_entry.ensures states w.0 so w.1 in
    let same : c.args.line.now.order ≡ c.order_of_entry.result.now =
    rw c.as_slice-order.ensures at (list_exact {E = name_eq.it} same_name-is c.as_slice-order.result.now
    c.order_of_entry.result.now (sym c.if-eq.ensures)) in
    rw same (c.if-is_still_shown.ensures refl c.order_of_entry.result.now (shown_there
    (bound.lawful input.machine) input.program.now w.2.alike c.order_of_entry.result.now known))
