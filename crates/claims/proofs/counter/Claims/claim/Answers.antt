-- The step is a draw by a seat that is not spent.
use Rattle.std.proofs.Common.{◌≡◌, ◌∙◌, if◌then◌else◌, ap, rules, sym}
use Rattle.claims.specs.Values.{Seated}
use Rattle.claims.specs.Rule.{draws}
use Rattle.claims.proofs.Steps.{draws_kept}
use Rattle.claims.proofs.counter.Claims.claim.Goals as goal

pub fetch_add-place-requires : goal.fetch_add-place-requires
fetch_add-place-requires c = (
  search rules,
  search rules,
  draws_kept _ (search rules) _ _ _ _ (search rules) (search rules),
)

pub returns-then-seat-clause-none_left : goal.returns-then-seat-clause-none_left
returns-then-seat-clause-none_left c =
    let seat = c.args.seat.now.drew in
    let stated : seat.spent ≡ 1 =
    ap (λ (s : Seated). s.drew.spent) (sym c.seat.view_is) ∙ c.seat.invariant.0
    ∙ ap (λ b. if b then 1 else 0) c.if-seat.true in
    let all : draws seat.seats seat.places seat.spent seat.size ≡ draws 1 seat.places 1 c.args.self.now.size =
    cc (c.requires.own.single, stated, c.requires.own.size) in all
