-- A step that ended no operation leaves the order as it was, and one that only read leaves the memory.
use Rattle.std.proofs.Common.{◌≡◌, None, rules, sym, ◌∙◌}
use Rattle.std.proofs.lemmas.Option.{same_Some}
use Rattle.replay.proofs.Loans.{step_silent}
use Rattle.replay.proofs.file.replaying.is_still_shown.Goals as goal
use Rattle.replay.proofs.file.replaying.is_still_shown.Goals.{else-not-reads-via-else-not-reads}
use Rattle.replay.proofs.file.replaying.is_still_shown.Goals.{else-not-reads-via-then-not-reads+else-not-ordered}

pub returns-in-None : goal.returns-in-None
returns-in-None g c _ order shown =
    let astray : c.args.next.now.astray ≡ None = search rules in
    let ordered : (g.M.Machine.rules c.args.machine).IsOrdered c.args.next.now.memory =
    elim c.else-not-reads.branch [
      | else-not-reads-via-then-not-reads+else-not-ordered w ↦ search rules
      | else-not-reads-via-else-not-reads w ↦ rw (c.requires.back.same (sym c.reads.ensures ∙ w.if-not-reads.false))
          shown.0.1
    ] in (
      (astray, ordered),
      step_silent (g.M.Machine.rules c.args.machine) c.args.program.now c.args.source.now.value
          c.args.next.now c.args.thread c.requires.step
          (λ a b at_a at_b. rw (same_Some _ _ (sym at_a ∙ c.requires.back.was), ← c.thread.ensures)
          (c.in-None.ensures b at_b)) order shown.1,
    )
