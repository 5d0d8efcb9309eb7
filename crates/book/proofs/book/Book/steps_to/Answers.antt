use Rattle.std.proofs.Common.{◌++◌, ◌∷◌, [], ◌∙◌, arith, refl, reverse, sym}
use Rattle.std.proofs.lemmas.List.{length-reverse, length_push}
use Rattle.book.proofs.Ways.{earlier_origin, way_back, way_ends, way_run}
use Rattle.book.proofs.book.Book.steps_to.Goals as goal

pub loop-origin-init : goal.loop-origin-init
loop-origin-init g c = (c.requires, omega arith, ([], refl, refl))

pub origin-requires : goal.origin-requires
origin-requires g c = rw (← c.self.view_is) at c.loop-origin.invariant.0

pub loop-origin-smaller : goal.loop-origin-smaller
loop-origin-smaller g c =
    earlier_origin _ _ _ _ c.self.invariant.0.law.law c.loop-origin.at c.origin.ensures _ c.in-Some.is

pub loop-origin-preserved : goal.loop-origin-preserved
loop-origin-preserved g c =
    let noted = c.loop-origin.invariant.2 in
    let back =
    way_back _ _ _ _ c.self.invariant.0.law.law c.loop-origin.at c.origin.ensures c.args.id noted.0 _ c.in-Some.is
    (rw (← c.self.view_is) at noted.2) in
    rw (← c.self.view_is) (
      back.0,
      omega (arith, loop-origin-smaller g c, c.loop-origin.invariant.1),
      (
        noted.0 ++ c.in-Some.origin.thread ∷ [],
        omega (arith, length_push noted.0 c.in-Some.origin.thread, noted.1),
        back.1,
      ),
    )

pub returns : goal.returns
returns g c =
    let noted = c.loop-origin.invariant.2 in
    let way =
    way_ends _ _ _ _ c.self.invariant.0.law.law c.loop-origin.at c.origin.ensures c.args.id (reverse noted.0)
    c.in_default.is (rw (← c.self.view_is) at noted.2) in
    let leads =
    way_run _ _ _ _ c.self.invariant.0.law.law c.self.invariant.0.machine (reverse noted.0) c.args.id
    (rw (← c.self.view_is) at c.requires) way in
    rw (← c.self.view_is) (leads.0, leads.1, sym leads.3 ∙ length-reverse noted.0 ∙ noted.1)
