-- The form of the machine that does each operation at once, in bytes.
use Rattle.std.specs.Prelude.{ℕ, List, [], ◌∷◌, ◌++◌, Option, Some, None}
use Rattle.std.specs.List.{flat_map}
use Rattle.tree_machine.specs.declared.atomic.AtomicLoc.{AtomicLoc}
use Rattle.tree_machine.specs.declared.atomic.AtomicForm.{AtomicForm}

-- what a thread holds as a number that is not 0
abbrev pub held_code : Option AtomicLoc → List ℕ
held_code None = 1 ∷ []
held_code (Some place) = 2 ∷ []

-- what the threads hold, a 0, and the keys
abbrev pub atomic_code : AtomicForm → List ℕ
atomic_code form = flat_map held_code form.places ++ 0 ∷ form.keys
