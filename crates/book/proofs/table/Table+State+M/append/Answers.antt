use Rattle.std.proofs.Common.{◌≡◌, false, Bool, None, Some, Option, is_some, not, position, sym, ap, ◌∙◌, arith, inr}
use Rattle.std.proofs.Common.{refl}
use Rattle.tree_machine.specs.Step.{step}
use Rattle.book.specs.Entries.{Entry}
use Rattle.replay.specs.Findings.{is_sound}
use Rattle.book.specs.Slots.{entries_of}
use Rattle.std.proofs.lemmas.Option.{same_Some}
use Rattle.book.proofs.Lent.{some_value}
use Rattle.book.proofs.SlotLemmas.{entries_with, length-entries, length_with, shown_with}
use Rattle.book.proofs.Cursors.{all_sound, cursors_appended, fault-append}
use Rattle.book.proofs.table.Table+State+M.append.Goals as goal
use Rattle.book.proofs.table.Table+State+M.append.Goals.{then-is_none, else-is_none}

none_of : {X : Type 0} (o : Option X) → is_some o ≡ false → o ≡ None
none_of None h = refl
none_of (Some x) h = cc

abbrev is_unsound : {S : Type 0} → Entry S → Bool
is_unsound e = not (is_sound e.finding)

pub first_fault_from-self-inside-requires : goal.first_fault_from-self-inside-requires
first_fault_from-self-inside-requires g c =
    let s = c.self.inside in
    let shown =
    entries_with (step (g.M.Machine.rules c.args.machine) c.args.program.now) c.copy-source.result.value c.args.parent
    _ _ c.args.steps.items c.in-Ok.ensures.put in
    λ i e at less. all_sound (entries_of s.slots.entries) _
    (sym c.self.invariant.first_fault ∙ none_of s.fault c.if-is_none.ensures)
    i e (rw shown at at) (omega (arith, length-entries s.slots.entries, c.len-was.ensures.len))

pub invariant_of-self-then-is_none : goal.invariant_of-self-then-is_none
invariant_of-self-then-is_none g c =
    let shown =
    entries_with (step (g.M.Machine.rules c.args.machine) c.args.program.now) c.copy-source.result.value c.args.parent
    _ _ c.args.steps.items c.in-Ok.ensures.put in
    rw shown (cursors_appended c.self.invariant c.args.parent _ c.first_fault_from-self-inside.result
    (c.first_fault_from-self-inside.ensures ∙ ap (position is_unsound) shown))

pub invariant_of-self-else-is_none : goal.invariant_of-self-else-is_none
invariant_of-self-else-is_none g c =
    let s = c.self.inside in
    let shown =
    entries_with (step (g.M.Machine.rules c.args.machine) c.args.program.now) c.copy-source.result.value c.args.parent
    _ _ c.args.steps.items c.in-Ok.ensures.put in
    let is = some_value s.fault c.if-is_none.ensures in
    rw shown (cursors_appended c.self.invariant c.args.parent _ s.fault
    (is.1 ∙ sym (fault-append (entries_of s.slots.entries) _ is.0 (sym c.self.invariant.first_fault ∙ is.1))))

pub returns-then-len-limit-clause-refused : goal.returns-then-len-limit-clause-refused
returns-then-len-limit-clause-refused g c =
    let longer =
    length_with (step (g.M.Machine.rules c.args.machine) c.args.program.now) c.copy-source.result.value c.args.parent
    _ _ c.args.steps.items c.in-Ok.ensures.put in
    let old = length-entries c.self.inside.slots.entries in
    rw (← c.self.view_is) (inr (refl, omega (arith, c.if-len-limit.true, c.len.ensures.len)))

pub returns-clause-put : goal.returns-clause-put
returns-clause-put g c = λ e at.
    let same = same_Some c.entry.result.now e (sym c.entry.ensures ∙ at) in
    let source = c.copy-source.ensures ∙ c.shown.ensures ∙ ap (λ (d : Entry _). d.state) same in
    let shown =
    rw source at (shown_with (step (g.M.Machine.rules c.args.machine) c.args.program.now) c.copy-source.result.value
    c.args.parent _ _ c.args.steps.items c.in-Ok.ensures.put _ c.self.view_is) in
    elim c.if-is_none.branch [
      | then-is_none w ↦ w.self-is ∙ shown
      | else-is_none w ↦ w.self-is ∙ shown
    ]
