use Rattle.std.proofs.Common.{◌-◌, count_by}
use Rattle.tree_machine.specs.declared.state.State.{State}
use Rattle.book.specs.Entries.{Entry, is_expanded}
use Rattle.book.specs.Books.{machine_in}
use Rattle.reports.specs.Driving.{IsInLayer, IsKept, IsLedgerOf}
use Rattle.reports.proofs.driving.expand_layer.Given as goal

abbrev pub invariant-layer : goal.invariant-layer
invariant-layer g l = record {
  kept : IsKept l.fn.book l.book;
  ledger : IsLedgerOf l.book l.share;
  in_layer : IsInLayer (machine_in g.M.Machine.rules l.fn.book).steps l.book.entries l.depth;
}

abbrev pub decreases-layer : goal.decreases-layer
decreases-layer g l =
    l.book.limit - count_by
    (λ (r : Entry (State g.row.M.Denot g.row.M-Mem.Denot g.row.M-Loc.Denot g.row.M-Form.Denot)). is_expanded r.mark)
    l.book.entries
