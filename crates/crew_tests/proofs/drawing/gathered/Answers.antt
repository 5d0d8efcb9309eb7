-- Each turn moves one drawer's seat over.
use Rattle.std.proofs.Common.{arith, ap, Some, ◌≡◌, ◌+◌, ◌++◌, ◌∷◌, [], List, length, length-append}
use Rattle.std.proofs.lemmas.List.Elements.{All-pop, All-push, All-same}
use Rattle.claims.specs.Seats.{IsSeatOf}
use Rattle.crew_tests.specs.declared.drawing.Drawer.{Drawer}
use Rattle.crew_tests.proofs.drawing.gathered.Goals as goal

fewer : (xs ys : List Drawer) (d : Drawer) → xs ≡ ys ++ d ∷ [] → length xs ≡ length ys + 1
fewer xs ys d is = omega (arith, ap (λ (l : List Drawer). length l) is, length-append ys (d ∷ []))

pub loop-drawer-preserved : goal.loop-drawer-preserved
loop-drawer-preserved c =
    let claims = c.args.claims.now in
    let i = c.loop-drawer.invariant in
    let left =
    All-pop (λ d. IsSeatOf claims d.seat) c.loop-drawer.drawers.items c.pop.new.self.items (Some c.in-Some.drawer)
    c.in-Some.ensures.items i.left in
    record {
      len = omega (
        arith,
        i.len,
        c.in_ok-push.ensures.len,
        fewer c.loop-drawer.drawers.items c.pop.new.self.items c.in-Some.drawer c.in-Some.ensures.items,
      );
      own = All-same (IsSeatOf claims) c.push.new.self.items (c.loop-drawer.seats.items ++ c.in-Some.drawer.seat ∷ [])
          c.in_ok-push.ensures.items
          (All-push (IsSeatOf claims) c.loop-drawer.seats.items c.in-Some.drawer.seat i.own left.1);
      left = left.0;
    }

pub loop-drawer-smaller : goal.loop-drawer-smaller
loop-drawer-smaller c =
    omega (arith, fewer c.loop-drawer.drawers.items c.pop.new.self.items c.in-Some.drawer c.in-Some.ensures.items)
