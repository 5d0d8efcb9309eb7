use Rattle.std.proofs.Common.{◌≡◌, take}
use Rattle.tree_machine.proofs.short_note.ShortNote.counts.Given as goal

-- the counts so far
abbrev pub invariant-loop-thread : goal.invariant-loop-thread
invariant-loop-thread l = l.counts ≡ take l.thread l.self
