use Rattle.lin.specs.Completion.{IsHopeless}
use Rattle.lin.specs.KeySet.{keys_in}
use Rattle.lin.specs.OpSet.{operations_in}
use Rattle.lin.specs.declared.progress.Configuration.{Configuration}
use Rattle.sched_program.specs.Program.{Program}
use Rattle.sched_program.specs.History.{History}

-- no list completes a linearization from here
abbrev pub IsHopelessAt : Program → History → Configuration → Type 0
IsHopelessAt program history at = IsHopeless program history (operations_in at.listed) (keys_in at.keys)
