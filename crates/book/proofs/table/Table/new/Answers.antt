use Rattle.std.proofs.Common.{◌≡◌, refl, None, Some, cond, sym, ◌∙◌}
use Rattle.book.specs.Entries.{Open, Entry}
use Rattle.replay.specs.Findings.{is_sound}
use Rattle.book.proofs.Cursors.{cursors_one, fault_of_one}
use Rattle.book.proofs.table.Table.new.Goals as goal
use Rattle.book.proofs.table.Table.new.Goals.{then-is_sound, else-is_sound}

pub invariant_of-result : goal.invariant_of-result
invariant_of-result g c =
    let e : Entry g.row.S.Denot =
    record { state = c.args.shown.value; finding = c.args.finding; origin = None; mark = Open } in
    let one = rw (c.new-slots.ensures.empty, c.open-row.ensures) at c.in_ok-put_new.ensures.put in
    let fault : c.if-is_sound.fault ≡ cond (is_sound c.args.finding) None (Some 0) = (elim c.if-is_sound.branch [
      | then-is_sound w ↦ rw (← c.is_sound.ensures, w.if-is_sound.true) w.fault-is
      | else-is_sound w ↦ rw (← c.is_sound.ensures, w.if-is_sound.false) w.fault-is
    ]) in
    rw one (cursors_one e refl c.if-is_sound.fault (fault ∙ sym (fault_of_one e)))
