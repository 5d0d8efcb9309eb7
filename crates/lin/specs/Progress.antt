use Rattle.std.specs.Prelude.{◌≡◌, true, ◌↔◌}
use Rattle.sched_program.specs.declared.operation.OpId.{OpId}
use Rattle.sched_program.specs.History.{History, EndedBefore}
use Rattle.lin.specs.Completion.{Listed}
use Rattle.lin.specs.Timeline.{HasPlace}

-- the operations that ended before a listed one began
abbrev pub AreBarred : History → Listed → Listed → Type 0
AreBarred history listed barred = (a : OpId) → HasPlace a → (barred a ≡ true)
    ↔ ((b : OpId) × (listed b ≡ true) × EndedBefore history a b)
