use Rattle.std.proofs.Common.{length}
use Rattle.words.proofs.Schedules.{HasRead}
use Rattle.words.proofs.schedule.schedule_of.Given as goal

abbrev pub invariant-loop-rest : goal.invariant-loop-rest
invariant-loop-rest l = HasRead l.fn.text l.threads.items l.rest

abbrev pub decreases-loop-rest : goal.decreases-loop-rest
decreases-loop-rest l = length l.rest
