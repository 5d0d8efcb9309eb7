-- The state that is read back is shared.
use Rattle.std.proofs.Common.{sym, ◌∙◌}
use Rattle.book.proofs.book.Book.state_of.Goals as goal

pub returns : goal.returns
returns g c =
    let at = c.in_ok-state.ensures in
    (at.0, at.1, at.2 ∙ sym c.in_ok-new.ensures.ok)
