-- What an order of operations says of a reply that comes after it.
use Rattle.std.specs.Prelude.{◌≡◌, ◌≢◌, ℕ, Bool, List, [], ◌∷◌, ◌++◌, Option, Some, option_and_then, if◌then◌else◌}
use Rattle.std.specs.Option.{option_map}
use Rattle.lin.specs.Keys.{Keys, reply_on, keys_after}
use Rattle.lin.specs.Completion.{listed_in}
use Rattle.sched_program.specs.Name.{same_name, value_at}
use Rattle.sched_program.specs.Program.{Program, op_at}
use Rattle.sched_program.specs.History.{History, reply, IsBegun, EndedBefore}
use Rattle.sched_program.specs.declared.operation.OpId.{OpId}

-- what an operation replies where those of an order are run one after the other from a set of keys: at its own place,
-- or after the last if it has none
abbrev pub reply_in : Program → Keys → List OpId → OpId → Option Bool
reply_in program keys [] a = option_map (λ o. reply_on o keys) (op_at program a.thread a.index)
reply_in program keys (b ∷ rest) a =
    if same_name b a then option_map (λ o. reply_on o keys) (op_at program a.thread a.index)
    else option_and_then (λ o. reply_in program (keys_after o keys) rest a) (op_at program b.thread b.index)

-- the order with an operation at its end, unless it is there already
abbrev pub ending_with : List OpId → OpId → List OpId
ending_with order a = if listed_in order a then order else order ++ a ∷ []

-- An operation that began has replied so, and what else is finished is as it was. What had begun is as it was, others
-- may have begun since, and none began after the operation ended.
pub record HasReplied (old new : History) (a : OpId) (r : Bool) : Type 0 where
  pub began : IsBegun new a
  pub replied : reply new a ≡ Some r
  pub others : (b : OpId) → a ≢ b → reply new b ≡ reply old b
  pub begun : (b : OpId) (note : List ℕ) → value_at old.begun b ≡ Some note → value_at new.begun b ≡ Some note
  pub last : (b : OpId) → EndedBefore new a b → ⊥
