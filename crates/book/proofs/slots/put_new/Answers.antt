use Rattle.std.proofs.Common.{append-nil, refl, sym, ◌∙◌}
use Rattle.std.proofs.lemmas.Map.Made.{is_some-lookup}
use Rattle.book.proofs.SlotLemmas.{put_last}
use Rattle.book.proofs.slots.put_new.Goals as goal

pub returns-then-contains_key-clause-put : goal.returns-then-contains_key-clause-put
returns-then-contains_key-clause-put g c =
    let there = rw is_some-lookup at (sym c.contains_key.ensures ∙ c.if-contains_key.true) in
    rw (there, append-nil) refl

pub returns-clause-put : goal.returns-clause-put
returns-clause-put g c =
    let none = rw is_some-lookup at (sym c.contains_key.ensures ∙ c.if-contains_key.false) in
    rw none (c.in_ok-insert.ensures.entries ∙ put_last g.K.PartialEq.eq _ _ _ none)
