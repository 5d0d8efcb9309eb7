use Rattle.std.proofs.Common.{◌≡◌, take}
use Rattle.sched_program.proofs.program.copy_lists.Given as goal

-- the lists so far are copied
abbrev pub invariant-loop-list : goal.invariant-loop-list
invariant-loop-list g l = l.copy ≡ take l.list-index l.lists
