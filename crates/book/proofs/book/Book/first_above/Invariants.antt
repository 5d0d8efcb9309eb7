use Rattle.std.proofs.Common.{ℕ, ◌-◌, ◌<◌, ◌≤◌, length}
use Rattle.tree_machine.specs.declared.state.State.{State}
use Rattle.book.specs.Entries.{Entry, At}
use Rattle.book.proofs.book.Book.first_above.Given as goal

abbrev pub invariant-loop-low : goal.invariant-loop-low
invariant-loop-low g l =
    ((i : ℕ) (e : Entry (State g.row.M.Denot g.row.M-Mem.Denot g.row.M-Loc.Denot g.row.M-Form.Denot))
    → At l.self.entries i e → i < l.low → e.state.steps ≤ l.steps)
    × ((i : ℕ) (e : Entry (State g.row.M.Denot g.row.M-Mem.Denot g.row.M-Loc.Denot g.row.M-Form.Denot))
    → At l.self.entries i e → l.high ≤ i → l.steps < e.state.steps)
    × (l.low ≤ l.high) × (l.high ≤ length l.self.entries)

abbrev pub decreases-loop-low : goal.decreases-loop-low
decreases-loop-low g l = l.high - l.low
