use Rattle.std.specs.Prelude.{◌≡◌, ◌≢◌, ℕ, ◌<◌, List, [], ◌∷◌, Some, All, AllPairs, Contains, IfSome, IsSome, IsSomeAnd}
use Rattle.std.specs.Prelude.{slice_get}
use Rattle.lin.specs.Keys.{Keys, keys_of, reply_on, keys_after}
use Rattle.sched_program.specs.Program.{op_at}
use Rattle.sched_program.specs.History.{reply, IsBegun, EndedBefore}
use Rattle.sched_program.specs.declared.operation.OpId.{OpId}
use Rattle.sched_program.specs.Program.{Program}
use Rattle.sched_program.specs.History.{History}

-- Run one after the other from a set of keys, the operations that are finished give their replies.
abbrev pub GivesReplies : Program → History → Keys → List OpId → Type 0
GivesReplies program history keys [] = Unit {0}
GivesReplies program history keys (a ∷ rest) =
    IsSomeAnd (op_at program a.thread a.index) (λ o.
    IfSome (reply history a) (λ r. r ≡ reply_on o keys) × GivesReplies program history (keys_after o keys) rest)

-- an order of operations that explains a history
pub record IsLinearization (program : Program) (history : History) (order : List OpId) : Type 0 where
  -- it lists distinct operations that began ..
  pub begun : All (IsBegun history) order
  pub distinct : AllPairs (λ a b. a ≢ b) order
  -- .. and every one that is finished,
  pub complete : (a : OpId) → IsSome (reply history a) → Contains order a
  -- one that ended before another began comes before it,
  pub in_time : (i j : ℕ) (a b : OpId) → slice_get order i ≡ Some a → slice_get order j ≡ Some b
      → EndedBefore history a b → i < j
  -- and run from the initial keys they give their replies
  pub replies : GivesReplies program history (keys_of program.initial) order

-- a history that has a linearization
abbrev pub IsLinearizable : Program → History → Type 0
IsLinearizable program history = (order : List OpId) × IsLinearization program history order
