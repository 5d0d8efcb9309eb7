-- The options of an exploration.
use Rattle.std.specs.Prelude.{ℕ, ◌≤◌}
use Rattle.options.specs.declared.options.Merge.{Merge}

-- how many steps a schedule may have, how many entries the book may have, which states it counts as one, and how many
-- workers explore
pub record Settings : Type 0 where
  pub steps : ℕ
  pub limit : ℕ
  pub merge : Merge
  pub workers : ℕ

pub record AreInRange (settings : Settings) : Type 0 where
  pub steps : settings.steps ≤ 400
  pub some : 1 ≤ settings.limit
  pub limit : settings.limit ≤ 2000000
  pub worker : 1 ≤ settings.workers
  pub workers : settings.workers ≤ 8
