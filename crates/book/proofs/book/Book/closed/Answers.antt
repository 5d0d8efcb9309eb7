use Rattle.std.proofs.Common.{rules, ◌≡◌, ◌∙◌, sym, ◌↔◌, IsTrue}
use Rattle.options.specs.declared.options.Merge.TheVariants.{Names}
use Rattle.book.specs.Books.{machine_in, right_in}
use Rattle.replay.specs.Schedule.{AreOneBy}
use Rattle.book.proofs.Agreeing.{book_back}
use Rattle.book.proofs.Closed.{worked_out, left_out, closed_holds}
use Rattle.book.proofs.book.Book.closed.Goals as goal

pub returns-in-Some-clause-closed : goal.returns-in-Some-clause-closed
returns-in-Some-clause-closed g c =
    let s = c.self.inside in
    rw (← c.self.view_is) (
      (λ h. cc),
      (λ h. absurd (left_out s.table.entries c.in-Some.field-0 (sym c.first_left.ensures ∙ c.in-Some.is) h.1)),
    )

pub returns-in-None-clause-closed : goal.returns-in-None-clause-closed
returns-in-None-clause-closed g c =
    let s = c.self.inside in
    let names : IsTrue c.eq.result ↔ (s.merge ≡ Names) = search rules in
    rw (← c.self.view_is) (
      (λ h. (names.0 h, worked_out s.table.entries (sym c.first_left.ensures ∙ c.in-None.is))),
      (λ h. names.1 h.0),
    )

pub returns-in-None-clause-every : goal.returns-in-None-clause-every
returns-in-None-clause-every g c =
    let b = c.args.self.now in
    let law = c.law.ensures in
    let tested = book_back _ law.machine (AreOneBy law.test.0) _ law.test.2 _ _ law.law in
    let out = worked_out c.self.inside.table.entries (sym c.first_left.ensures ∙ c.in-None.is) in
    λ _ sound. closed_holds (machine_in g.M.Machine.rules b) law.test.0 (right_in g.M.Machine.rules b) law.machine
    law.test.1
    (λ r s f h one found. (found.0, law.findings r s f h ((law.test.2 r s f h).0 one) found.0 found.1, found.2))
    b.entries tested.law (rw (← c.self.view_is) out) sound

pub returns-in-Some-clause-every : goal.returns-in-Some-clause-every
returns-in-Some-clause-every g c = λ h. cc
