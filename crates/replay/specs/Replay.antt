-- Where a replay stops.
use Rattle.std.specs.Prelude.{◌≡◌, ℕ, ◌+◌, List, take, None, IsSome}
use Rattle.replay.specs.Schedule.{StepMachine, after}
use Rattle.replay.specs.declared.replayed.ReplayFault.{ReplayFault}
use Rattle.replay.specs.declared.replayed.ReplayFault.TheVariants.{NotEnabled, OutOfMemory}

-- the steps before this one, counted from 1, are those of enabled threads, and this one is not
abbrev pub StopsAt : {S : Type 0} → StepMachine S → List ℕ → ReplayFault → Type 0
StopsAt m schedule (NotEnabled n) =
    (i : ℕ) × (n ≡ i + 1) × IsSome (after m (take i schedule)) × (after m (take n schedule) ≡ None)
StopsAt m schedule OutOfMemory = Unit {0}
