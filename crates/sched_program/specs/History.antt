-- Histories.
use Rattle.std.specs.Prelude.{◌≡◌, ℕ, ◌<◌, ◌≤◌, Bool, List, length, Option, IsSome, IsSomeAnd, All, slice_index}
use Rattle.sched_program.specs.declared.operation.OpId.{OpId}
use Rattle.sched_program.specs.Name.{value_at, Ascend}
use Rattle.sched_program.specs.Program.{Program, op_at}

-- The operations that began, each with its note (for every thread, how many operations that thread had finished then),
-- and those that finished, each with its reply.
pub record History : Type 0 where
  pub begun : List (OpId × List ℕ)
  pub finished : List (OpId × Bool)

abbrev pub IsBegun : History → OpId → Type 0
IsBegun history a = IsSome (value_at history.begun a)

-- the reply of an operation, if it is finished
abbrev pub reply : History → OpId → Option Bool
reply history a = value_at history.finished a

-- a ended before b began: b's note counts a among the operations that a's thread had finished
abbrev pub EndedBefore : History → OpId → OpId → Type 0
EndedBefore history a b = IsSomeAnd (value_at history.begun b) (λ note. a.index < slice_index note a.thread)

-- A history of a program: it names the program's operations, in ascending order, each note has one count for each
-- thread, and every finished operation is begun.
pub record IsHistoryOf (program : Program) (history : History) : Type 0 where
  pub names : All (λ e. IsSome (op_at program e.0.thread e.0.index)) history.begun
  pub notes : All (λ e. length e.1 ≡ length program.threads) history.begun
  pub begun_ascend : Ascend history.begun
  pub finished_are_begun : All (λ e. IsBegun history e.0) history.finished
  pub finished_ascend : Ascend history.finished

-- what the history of any program meets
pub record IsHistory (history : History) : Type 0 where
  pub names : All (λ e. (e.0.thread < 4) × (e.0.index < 6)) history.begun
  pub notes : All (λ e. length e.1 ≤ 4) history.begun
  pub begun_ascend : Ascend history.begun
  pub finished_are_begun : All (λ e. IsBegun history e.0) history.finished
  pub finished_ascend : Ascend history.finished
