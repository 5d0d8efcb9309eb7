-- A value that is there is the one that `unwrap_or` returns.
use Rattle.std.proofs.Common.{refl}
use contract.BorrowLft.{⊑_meet, ⊑_static}
use Rattle.book.proofs.Lent.{some_value}
use Rattle.book.proofs.shown.shown_step.Goals as goal

pub returns : goal.returns
returns g c =
    let next = some_value _ c.requires in
    rw (c.any.ensures, next.1) refl

pub any-requires : goal.any-requires
any-requires g c κs (refs, (a, (b, (d, (e, (f, (h, (i, (j, more))))))))) = (
  search (⊑_meet, ⊑_static, a, b, d, e) depth 60 fits 40000,
  search (⊑_meet, ⊑_static, refs.0, refs.1.0, f, h, i, j) depth 60 fits 40000,
)
