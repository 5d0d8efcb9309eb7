-- A sum so far grows by the next share.
use Rattle.std.proofs.Common.{rules}
use Rattle.reports.proofs.reporting.sum_of.Goals as goal

pub loop-share-init : goal.loop-share-init
loop-share-init c = search rules
