use Rattle.std.proofs.Common.{rules, ◌≡◌, sym, ◌∙◌, ◌↔◌, IsTrue, true≢false}
use Rattle.std.specs.Cmp.Lexicographic.{lists_equiv}
use Rattle.sched_program.specs.Laws.Exact.{nat_exact, list_exact}
use Rattle.tree_machine.specs.Laws.CellOrder.{nat_equivalence}
use Rattle.book.proofs.EntryLabels.{label_there}
use Rattle.book.proofs.book.Book.is_entry_of.Goals as goal

pub returns-then-eq : goal.returns-then-eq
returns-then-eq g c =
    let x = c.entry.inside.key in
    let own = rw (← c.self.view_is, ← c.entry.view_is) at c.requires.of in
    let merges : IsTrue c.eq.result ↔ (c.self.inside.merge ≡ x.merge) = search rules in
    let taken = rw (← c.self.view_is, ← c.entry.view_is) at c.requires.taken in
    let label = label_there _ c.self.inside.table c.self.invariant.1 x.id in
    rw (← c.self.view_is, ← c.entry.view_is) (
      (λ yes. record {
        machine = own.0;
        program = own.1;
        merge = sym (merges.0 c.if-eq.true);
        label = λ e at. sym (label e at _ c.label.ensures)
            ∙ list_exact nat_exact c.label.result.now c.as_slice.result.now (sym c.eq-then-eq.ensures ∙ yes)
            ∙ c.as_slice.ensures;
      }),
      (λ is. rw (
        c.eq-then-eq.ensures,
        c.as_slice.ensures,
        ← is.label taken.0 taken.1,
        ← label taken.0 taken.1 _ c.label.ensures,
      )
          ((lists_equiv nat_equivalence).refl c.label.result.now)),
    )

pub returns-else-eq : goal.returns-else-eq
returns-else-eq g c =
    let s = c.self.inside in
    let x = c.entry.inside.key in
    let merges : IsTrue c.eq.result ↔ (s.merge ≡ x.merge) = search rules in
    rw (← c.self.view_is, ← c.entry.view_is) (
      (λ yes. absurd (true≢false (sym yes ∙ c.if-eq.false))),
      (λ is. merges.1 (sym is.merge)),
    )
