use Rattle.std.proofs.Common.{◌∙◌, arith, sym}
use Rattle.std.proofs.lemmas.Option.{slice_get_within}
use Rattle.book.specs.BookFile.Written.{IsFileOf}
use Rattle.book.proofs.BookFile.Writable.{all_sound, one_unsound, writable, lines_count}
use Rattle.book.proofs.BookFile.Written.{written_pass}
use Rattle.book.proofs.book.Book.to_text.Goals as goal

pub returns-then-is_some-clause-none : goal.returns-then-is_some-clause-none
returns-then-is_some-clause-none g c =
    λ _ sound. one_unsound c.args.self.now.entries c.first_fault.result c.first_fault.ensures
    (sym c.is_some.ensures ∙ c.if-is_some.true) sound

pub write_entries-requires-clause-writable : goal.write_entries-requires-clause-writable
write_entries-requires-clause-writable g c =
    let b = c.args.self.now in
    let law = c.law.ensures in
    rw (← c.self.view_is) at (writable (g.M.Machine.rules b.machine) b.program law.limits _ law.machine
    b.entries law.law.law (omega (arith, law.law.within, law.law.limit))
    (all_sound b.entries c.first_fault.result c.first_fault.ensures (sym c.is_some.ensures ∙ c.if-is_some.false)))

pub returns-clause-some : goal.returns-clause-some
returns-clause-some g c =
    let b = c.args.self.now in (
      c.closed.ensures.closed.0 c.if-not-closed.false,
      all_sound b.entries c.first_fault.result c.first_fault.ensures (sym c.is_some.ensures ∙ c.if-is_some.false),
    )

pub returns-clause-passes : goal.returns-clause-passes
returns-clause-passes g c =
    let b = c.args.self.now in
    let law = c.law.ensures in
    let ready = returns-clause-some g c in
    let is : IsFileOf b.entries c.in_ok-write_entries.field-0.items =
    rw (← c.self.view_is) c.in_ok-write_entries.ensures in (
      is.lines,
      is.whole,
      written_pass g.M.Machine.rules b law.law
          ((law.test.2 _ _ law.machine.start_fits law.machine.start_fits).0 (law.test.1.itself _)) ready.0 ready.1
          is.lines is.of_entries,
      lines_count b.entries is.lines
          (omega (arith, slice_get_within b.entries 0 law.law.law.start.0 law.law.law.start.1)) is.of_entries,
    )
