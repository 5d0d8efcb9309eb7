use Rattle.std.proofs.Common.{◌≡◌, ◌*◌, ℕ, ◌<◌, ◌≤◌, take, get_or, sum}
use Rattle.sched_program.proofs.text.are_op_counts.Given as goal

abbrev pub invariant-loop-count : goal.invariant-loop-count
invariant-loop-count l = record {
  small : l.total ≤ 6 * l.count-index;
  counted : l.total ≡ sum (take l.count-index l.counts);
  each : (k d : ℕ) → k < l.count-index → (1 ≤ get_or l.counts k d) × (get_or l.counts k d ≤ 6);
}
