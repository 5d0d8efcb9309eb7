use Rattle.std.proofs.Common.{◌<◌, length, reverse}
use Rattle.book.specs.Ways.{IsWay}
use Rattle.book.proofs.book.Book.schedule_of.Given as goal

abbrev pub invariant-loop-origin : goal.invariant-loop-origin
invariant-loop-origin g l = (l.at < length l.self.entries)
    × IsWay l.self.entries l.at (reverse l.schedule.items) l.fn.id

abbrev pub decreases-loop-origin : goal.decreases-loop-origin
decreases-loop-origin g l = l.at
