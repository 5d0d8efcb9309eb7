-- Tests of machines and programs hold of equal ones alone.
use Rattle.book.proofs.expansion.Expansion.is_with.Goals as goal

pub returns-then-eq : goal.returns-then-eq
returns-then-eq g c =
    let s = c.self.inside in
    let bound = g.met.M.Machine g.world.𝓛 g.world.𝓜 g.world.𝓡 ((λ s x. x), (λ x. x), (λ x. x), λ x. x) in
    let machine = bound.exact s.machine c.args.machine.now (rw c.eq.ensures at c.if-eq.true) in
    rw (← c.self.view_is) ((λ yes. (machine, c.is_same.ensures.0 yes)), (λ both. c.is_same.ensures.1 both.1))
