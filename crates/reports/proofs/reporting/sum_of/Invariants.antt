use Rattle.std.proofs.Common.{◌≡◌, sum_by, take}
use Rattle.reports.proofs.reporting.sum_of.Given as goal

abbrev pub invariant-loop-share : goal.invariant-loop-share
invariant-loop-share l = record {
  expanded : l.sum.expanded ≡ sum_by (λ s. s.expanded) (take l.share-index l.shares);
  entered : l.sum.entered ≡ sum_by (λ s. s.entered) (take l.share-index l.shares);
  met : l.sum.met ≡ sum_by (λ s. s.met) (take l.share-index l.shares);
}
