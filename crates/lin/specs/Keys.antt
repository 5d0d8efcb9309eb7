use Rattle.std.specs.Prelude.{ℕ, Bool, false, ◌==◌, ◌||◌, ◌&&◌, not, List}
use Rattle.std.specs.List.{list_any}
use Rattle.sched_program.specs.declared.operation.Op.{Op}
use Rattle.sched_program.specs.declared.operation.Op.TheVariants.{Insert, Delete, Find}

-- a set of keys, as the test whether a key is in it
abbrev pub Keys : Type 0
Keys = ℕ → Bool

abbrev pub no_keys : Keys
no_keys = λ x. false

abbrev pub with_key : Keys → ℕ → Keys
with_key keys k = λ x. keys x || x == k

abbrev pub without_key : Keys → ℕ → Keys
without_key keys k = λ x. not (x == k) && keys x

-- the set of the keys of a list
abbrev pub keys_of : List ℕ → Keys
keys_of list = λ x. list_any (λ k. x == k) list

-- what an operation replies on a set of keys
abbrev pub reply_on : Op → Keys → Bool
reply_on (Insert k) keys = not (keys k)
reply_on (Delete k) keys = keys k
reply_on (Find k) keys = keys k

-- the set of keys that an operation leaves
abbrev pub keys_after : Op → Keys → Keys
keys_after (Insert k) keys = with_key keys k
keys_after (Delete k) keys = without_key keys k
keys_after (Find k) keys = keys
