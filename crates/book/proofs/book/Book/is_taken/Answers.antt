-- An entry is taken exactly where its row says so.
use Rattle.std.proofs.Common.{refl, sym, ◌∙◌}
use Rattle.std.proofs.lemmas.Option.{same_Some}
use Rattle.book.proofs.Marks.{taken_from}
use Rattle.book.proofs.book.Book.is_taken.Goals as goal

pub returns-in-Some : goal.returns-in-Some
returns-in-Some g c =
    let row = c.in-Some.row.now in
    let at = rw c.in-Some.is at c.row.ensures in
    rw (← c.self.view_is) (
      (λ is. (row, sym at, taken_from row.mark (sym c.is_taken.ensures ∙ is))),
      (λ taken. rw (c.is_taken.ensures, same_Some row taken.0 (at ∙ taken.1), taken.2) refl),
    )

pub returns-in-None : goal.returns-in-None
returns-in-None g c =
    rw (← c.self.view_is) ((λ is. cc), (λ taken. cc (rw c.in-None.is at c.row.ensures, taken.1)))
