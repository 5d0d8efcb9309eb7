use Rattle.std.proofs.Common.{◌≡◌, ◌<◌, ◌≤◌, ◌+◌, ℕ, List, length, reverse}
use Rattle.book.specs.Ways.{IsWay}
use Rattle.book.proofs.book.Book.steps_to.Given as goal

abbrev pub invariant-loop-origin : goal.invariant-loop-origin
invariant-loop-origin g l =
    (l.at < length l.self.entries) × (l.steps + l.at ≤ l.fn.id)
    × ((noted : List ℕ) × (length noted ≡ l.steps) × IsWay l.self.entries l.at (reverse noted) l.fn.id)

abbrev pub decreases-loop-origin : goal.decreases-loop-origin
decreases-loop-origin g l = l.at
