use Rattle.std.proofs.Common.{◌≡◌, ℕ, ◌-◌, map}
use Rattle.std.specs.List.{range_with_len}
use Rattle.std.specs.declared.sync.Arc.{Arc}
use Rattle.tree_machine.specs.declared.state.State.{State}
use Rattle.book.specs.Slots.{AreStatesOf}
use Rattle.book.proofs.book.Book.states_of.Given as goal

abbrev pub invariant-loop-index : goal.invariant-loop-index
invariant-loop-index g l =
    (map (λ (p : ℕ × Arc (State g.row.M.Denot g.row.M-Mem.Denot g.row.M-Loc.Denot g.row.M-Form.Denot) _). p.0)
    l.range.items ≡ range_with_len l.start (l.index - l.start))
    × AreStatesOf l.self.entries l.range.items
