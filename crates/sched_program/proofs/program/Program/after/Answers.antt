use Rattle.std.proofs.Common.{◌<◌, ◌≤◌, arith, sym, ◌∙◌, ap, Some}
use Rattle.sched_program.proofs.Waiting.{small_turn}
use Rattle.sched_program.proofs.program.Program.after.Goals as goal

small : (c : goal.In_ok-turn) → (c.in_ok-turn.turn.thread < c.from.result) × (c.in_ok-turn.turn.count ≤ 6)
small c =
    small_turn c.self.inside.threads c.self.inside.turns c.from.result c.from-2.result c.in_ok-turns.turns.now
    c.in_ok-turn.turn c.self.invariant.op_counts c.self.invariant.turns (sym c.in_ok-turns.ensures)
    (sym c.get-2.ensures ∙ sym c.in_ok-copied.ensures ∙ ap Some c.in_ok-turn.was)

pub overflow_cast-result : goal.overflow_cast-result
overflow_cast-result c = omega (arith, small c, c.from.ensures, c.well_formed)

pub overflow_cast-result-2 : goal.overflow_cast-result-2
overflow_cast-result-2 c = omega (arith, small c)
