use Rattle.std.proofs.Common.{refl, reverse}
use Rattle.book.proofs.Ways.{earlier_origin, one_way, way_back, way_ends, way_run}
use Rattle.book.proofs.book.Book.schedule_of.Goals as goal

pub loop-origin-init : goal.loop-origin-init
loop-origin-init g c = (c.requires, rw c.new-schedule.ensures.items refl)

pub origin-requires : goal.origin-requires
origin-requires g c = rw (← c.self.view_is) at c.loop-origin.invariant.0

pub loop-origin-smaller : goal.loop-origin-smaller
loop-origin-smaller g c =
    earlier_origin _ _ _ _ c.self.invariant.0.law.law c.loop-origin.at c.origin.ensures _ c.in-Some.is

pub loop-origin-preserved : goal.loop-origin-preserved
loop-origin-preserved g c =
    rw (c.in_ok-push.ensures.items, ← c.self.view_is)
    (way_back _ _ _ _ c.self.invariant.0.law.law c.loop-origin.at c.origin.ensures c.args.id
    c.loop-origin.schedule.items _ c.in-Some.is (rw (← c.self.view_is) at c.loop-origin.invariant.1))

pub returns-clause-way : goal.returns-clause-way
returns-clause-way g c =
    rw (c.reverse.ensures.items, ← c.self.view_is)
    (way_ends _ _ _ _ c.self.invariant.0.law.law c.loop-origin.at c.origin.ensures c.args.id
    (reverse c.loop-origin.schedule.items) c.in_default.is (rw (← c.self.view_is) at c.loop-origin.invariant.1))

pub returns-clause-leads : goal.returns-clause-leads
returns-clause-leads g c =
    rw (← c.self.view_is)
    (way_run _ _ _ _ c.self.invariant.0.law.law c.self.invariant.0.machine _ c.args.id
    (rw (← c.self.view_is) at c.requires) (rw (← c.self.view_is) at (returns-clause-way g c)))

pub returns-clause-only : goal.returns-clause-only
returns-clause-only g c =
    rw (← c.self.view_is)
    (λ d. one_way _ _ _ _ c.self.invariant.0.law.law c.self.invariant.0.machine _ d c.args.id
    (rw (← c.self.view_is) at c.requires) (rw (← c.self.view_is) at (returns-clause-way g c)))
