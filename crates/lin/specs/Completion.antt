-- What may follow a set of operations that are listed already, from a set of keys. Whether there is such a list depends
-- on these two sets alone.
use Rattle.std.specs.Prelude.{◌≡◌, Bool, true, false, ◌||◌, List, [], ◌∷◌, IfSome, IsSome, IsSomeAnd}
use Rattle.std.specs.List.{list_any}
use Rattle.lin.specs.Keys.{Keys, reply_on, keys_after}
use Rattle.sched_program.specs.Name.{same_name}
use Rattle.sched_program.specs.Program.{op_at}
use Rattle.sched_program.specs.History.{reply, IsBegun, EndedBefore}
use Rattle.sched_program.specs.declared.operation.OpId.{OpId}
use Rattle.sched_program.specs.Program.{Program}
use Rattle.sched_program.specs.History.{History}

-- a set of operations, as the test whether an operation is in it
abbrev pub Listed : Type 0
Listed = OpId → Bool

-- the set of the operations of a list
abbrev pub listed_in : List OpId → Listed
listed_in order = λ a. list_any (λ b. same_name b a) order

abbrev pub with_name : Listed → OpId → Listed
with_name listed a = λ b. listed b || same_name a b

abbrev pub EveryFinishedIsListed : History → Listed → Type 0
EveryFinishedIsListed history listed = (a : OpId) → IsSome (reply history a) → listed a ≡ true

-- an operation may come next, and leaves these keys
pub record StandsNext (program : Program) (history : History) (listed : Listed) (keys : Keys) (a : OpId)
    (next : Keys) : Type 0 where
  pub begun : IsBegun history a
  pub new : listed a ≡ false
  pub in_time : (b : OpId) → with_name listed a b ≡ true → EndedBefore history a b → ⊥
  pub gives : IsSomeAnd (op_at program a.thread a.index)
      (λ o. IfSome (reply history a) (λ r. r ≡ reply_on o keys) × (next ≡ keys_after o keys))

-- this list completes a linearization
abbrev pub Completes : Program → History → Listed → Keys → List OpId → Type 0
Completes program history listed keys [] = EveryFinishedIsListed history listed
Completes program history listed keys (a ∷ rest) =
    (next : Keys) × StandsNext program history listed keys a next
    × Completes program history (with_name listed a) next rest

-- no list completes a linearization
abbrev pub IsHopeless : Program → History → Listed → Keys → Type 0
IsHopeless program history listed keys = (rest : List OpId) → Completes program history listed keys rest → ⊥
