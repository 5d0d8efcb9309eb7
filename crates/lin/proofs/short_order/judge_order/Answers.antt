use Rattle.lin.proofs.Bounds.{at_most_twelve}
use Rattle.lin.proofs.Places.{linearization_placed}
use Rattle.lin.proofs.short_order.judge_order.Goals as goal

pub order_of-requires : goal.order_of-requires
order_of-requires c =
    let is = rw c.in-Some.is at c.in_ok-names.ensures.found in
    rw c.as_slice.ensures.value (record {
      bounded = at_most_twelve _ c.initial.ensures.limits c.args.history.now _ is;
      places = linearization_placed _ c.initial.ensures.limits c.args.history.now _ is;
    })
