use Rattle.std.proofs.Common.{◌≡◌, take, All}
use Rattle.lin.specs.Configuration.{IsHopelessAt}
use Rattle.lin.specs.KeySet.{keys_in}
use Rattle.lin.specs.Completion.{listed_in}
use Rattle.lin.proofs.Search.{CannotComeNext, unlisted_count}
use Rattle.lin.proofs.searcher.+complete.Given as goal

abbrev pub decreases-complete : goal.decreases-complete
decreases-complete l = unlisted_count (listed_in l.order.now.items) l.timeline.now.begun

abbrev pub invariant-loop-name : goal.invariant-loop-name
invariant-loop-name l = record {
  same : l.order.items ≡ l.fn.order.items;
  failed : All (IsHopelessAt l.program l.timeline) l.failed.keys;
  tried : All (λ e. CannotComeNext l.program l.timeline (listed_in l.fn.order.items) (keys_in l.from.at.keys) e.0)
      (take l.name-index l.name-items);
}
