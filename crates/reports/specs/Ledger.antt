-- What all workers did together.
use Rattle.std.specs.Prelude.{List, sum_by}
use Rattle.reports.specs.declared.answer.Share.{Share}

-- the sums over all workers' shares
abbrev pub ledger : List Share → Share
ledger shares =
    record {
      expanded = sum_by (λ share. share.expanded) shares;
      entered = sum_by (λ share. share.entered) shares;
      met = sum_by (λ share. share.met) shares;
    }
