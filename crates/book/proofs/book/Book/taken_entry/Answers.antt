use Rattle.std.proofs.Common.{◌≡◌, ap, arith, refl, sym, ◌∙◌}
use Rattle.std.proofs.lemmas.Option.{same_Some}
use Rattle.book.specs.Entries.{Entry, IsTaken}
use Rattle.book.specs.Labels.{label_by}
use Rattle.book.proofs.EntryLabels.{label_there}
use Rattle.book.proofs.InBook.{state_bounded}
use Rattle.book.proofs.book.Book.taken_entry.Given.{Over}
use Rattle.book.proofs.book.Book.taken_entry.Goals.{After-finding}
use Rattle.book.proofs.book.Book.taken_entry.Goals as goal

-- the entry is taken, and its label and finding are handed out
its : (g : Over) (c : After-finding g) → (taken : IsTaken c.self.inside.table.entries c.args.id)
    × (c.in_ok-label.label ≡ label_by g.M.Encode.own_code g.M.Encode.form_code
    (g.M.Machine.form_of c.self.inside.machine) c.self.inside.merge taken.0.state)
    × (c.finding.result.now ≡ taken.0.finding)
its g c =
    let taken = rw (← c.self.view_is) at (c.is_taken.ensures.0 c.if-not-is_taken.false) in (
      taken,
      c.in_ok-label.ensures
          ∙ label_there _ c.self.inside.table c.self.invariant.1 c.args.id taken.0 taken.1 _ c.label.ensures,
      c.finding.ensures ∙ ap (λ (x : Entry _). x.finding) (same_Some _ _ (sym c.entry.ensures ∙ taken.1)),
    )

pub invariant_of-result : goal.invariant_of-result
invariant_of-result g c =
    let its = its g (goal.at.invariant_of-result g c).After-finding in
    let law = c.self.invariant.0.law in
    let program = rw (← c.self.view_is) at c.requires in
    record {
      state = its.0.0.state;
      fits = simp program (law.law.fit c.args.id its.0.0 its.0.1);
      bounded = omega (
        arith,
        law.limit,
        state_bounded c.self.invariant.0 c.args.id its.0.0.state (its.0.0, its.0.1, refl),
      );
      label = sym its.1;
      finding = simp (program, its.2) (law.law.findings c.args.id its.0.0 its.0.1);
    }

pub returns-clause-entry : goal.returns-clause-entry
returns-clause-entry g c =
    let its = its g (goal.at.returns-clause-entry g c).After-finding in
    let s = c.self.inside in
    let program = rw (← c.self.view_is) at c.requires in
    rw (← c.self.view_is) (
      its.0.0,
      its.0.1,
      its.0.2,
      its.2,
      λ j. record { id = c.args.id; machine = s.machine; program = program j; merge = s.merge; label = its.1 j },
    )
