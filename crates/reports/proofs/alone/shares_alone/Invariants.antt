use Rattle.std.proofs.Common.{◌≡◌, length, sum_by}
use Rattle.reports.proofs.alone.shares_alone.Given as goal

abbrev pub invariant-loop-other : goal.invariant-loop-other
invariant-loop-other l = record {
  made : length l.shares.items ≡ l._other;
  expanded : sum_by (λ s. s.expanded) l.shares.items ≡ l.fn.share.expanded;
  entered : sum_by (λ s. s.entered) l.shares.items ≡ l.fn.share.entered;
  met : sum_by (λ s. s.met) l.shares.items ≡ l.fn.share.met;
}
