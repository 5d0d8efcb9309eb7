use Rattle.std.proofs.Common.{◌≡◌, ◌≤◌, vec_len, vec_capacity}
use Rattle.crew.proofs.worker.workers_of.Given as goal

abbrev pub invariant-loop-before : goal.invariant-loop-before
invariant-loop-before l = record {
  made : vec_len l.workers ≡ l.before;
  room : l.count ≤ vec_capacity l.workers;
}
