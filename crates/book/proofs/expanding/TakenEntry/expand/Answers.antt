-- What is read from the entry's label stands in for each state that has it.
use Rattle.std.proofs.Common.{arith}
use Rattle.replay.specs.declared.finding.Finding.TheVariants as found
use Rattle.book.proofs.StandingIn.{one_found}
use Rattle.book.proofs.expanding.TakenEntry.expand.Goals as goal

pub steps_here-requires-after_bounds : goal.steps_here-requires-after_bounds
steps_here-requires-after_bounds g c κs within =
    let bound = g.met.M.Machine g.world.𝓛 g.world.𝓜 g.world.𝓡 ((λ s x. x), (λ x. x), (λ x. x), λ x. x) in
    let key = c.self.inside.key in
    let of = c.self.invariant in
    let limits = c.initial.ensures.limits in
    let read = rw (c.in-Some.is, c.as_slice-label.ensures) at c.in_ok-decoded.ensures in
    let stands = read.stands key.merge key.program.now limits of.state of.fits of.label in
    rw (c.deref_mut.ensures.value, ← c.self.view_is) (record {
      read = read.read;
      fits = stands.fits;
      steps_fit = omega (arith, stands.steps, of.bounded);
      sound = one_found (g.M.Machine.rules key.machine) key.program.now (g.M.Machine.form_of key.machine)
          (bound.lawful key.machine) (bound.forms key.machine) key.merge of.state c.in-Some.decoded.state.value of.fits
          stands.fits stands.counts (found.Sound c.in-Sound.order) (rw c.in-Sound.is at of.finding);
      counts = (λ r r_fits r_is. (read.stands key.merge key.program.now limits r r_fits r_is).counts);
    })

pub invariant_of-result : goal.invariant_of-result
invariant_of-result g c = rw (← c.self.view_is) at c.in_ok-steps.ensures.steps
