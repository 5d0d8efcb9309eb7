-- The names of operations, and values beside them.
use Rattle.std.specs.Prelude.{◌≡◌, ℕ, ◌+◌, ◌<◌, ◌⊎◌, Bool, ◌==◌, ◌&&◌, if◌then◌else◌, List, [], ◌∷◌, Option, Some, None}
use Rattle.std.specs.Prelude.{slice_get}
use Rattle.sched_program.specs.declared.operation.OpId.{OpId}

-- whether two names are the same
abbrev pub same_name : OpId → OpId → Bool
same_name a b = a.thread == b.thread && a.index == b.index

-- the value beside a name
abbrev pub value_at : {V : Type 0} → List (OpId × V) → OpId → Option V
value_at [] a = None
value_at (entry ∷ rest) a = if same_name entry.0 a then Some entry.1 else value_at rest a

-- the order of names: by thread, and then by index
abbrev pub IsBefore : OpId → OpId → Type 0
IsBefore a b = (a.thread < b.thread) ⊎ ((a.thread ≡ b.thread) × (a.index < b.index))

-- the names ascend strictly
abbrev pub Ascend : {V : Type 0} → List (OpId × V) → Type 0
Ascend {V} entries = (i : ℕ) (a b : OpId × V) → slice_get entries i ≡ Some a → slice_get entries (i + 1) ≡ Some b
    → IsBefore a.0 b.0
