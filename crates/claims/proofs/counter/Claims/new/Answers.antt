-- Each turn cuts off a seat that drew nothing.
use Rattle.std.proofs.Common.{rules, arith, ap, refl, sym, ◌∙◌, ◌≡◌, ◌-◌, vec_len}
use Rattle.claims.specs.declared.view.Size.{Size}
use Rattle.claims.proofs.Steps.{cut_kept}
use Rattle.claims.proofs.Turns.{Knows, all_new}
use Rattle.claims.proofs.counter.Claims.new.Goals as goal

pub split_seat-requires : goal.split_seat-requires
split_seat-requires c =
    let rest = c.loop.invariant.rest in
    let seats = ap (λ (m : Knows). m.0.seats) rest in (
      search rules,
      search rules,
      cut_kept _ _ _ (omega (arith, seats, c.loop.invariant.filled))
          (ap (λ (m : Knows). m.0.spent) rest) (ap (λ (m : Knows). m.0.size) rest ∙ sym c.in_ok-table.ensures.5),
    )

pub loop-preserved : goal.loop-preserved
loop-preserved c =
    let e = c.split_seat.ensures in
    let rest = c.loop.invariant.rest in
    let size : Size = record { len = c.args.len; seats = c.args.seats } in
    let left : c.args.seats - vec_len c.loop.made - 1 ≡ c.args.seats - vec_len c.push_reserved.new.self =
    omega (arith, c.push_reserved.ensures.len) in
    record {
      filled = search rules;
      room = search rules;
      rest = rw (e.2, rest, left) refl;
      own = search rules;
      made = all_new (record { counter = c.in_ok-table.table.shared.table_id; size = size }) _ _ _
          c.push_reserved.ensures.items c.loop.invariant.made (search rules) (rw (c.seated.ensures.1, e.4, rest) refl);
    }

pub returns-clause-fresh : goal.returns-clause-fresh
returns-clause-fresh c =
    let size : Size = record { len = c.args.len; seats = c.args.seats } in
    let single : c.args.seats - vec_len c.loop.made ≡ 1 = omega (arith, c.loop.invariant.filled) in
    all_new (record { counter = c.in_ok-table.table.shared.table_id; size = size }) _ _ _
    c.push_reserved-2.ensures.items c.loop.invariant.made (search rules)
    (rw (c.seated-2.ensures.1, c.loop.invariant.rest, single) refl)
