-- How the steps of a state are appended to a list, thread by thread.
use Rattle.std.specs.Prelude.{◌≡◌, ℕ, Option, Some, None, List, [], ◌∷◌, ◌++◌}
use Rattle.book.specs.Entries.{Finding, Successor}
use Rattle.replay.specs.Schedule.{StepMachine}

module _ {S T : Type 0} (m : StepMachine S) (right : S → Finding → Type 0) (put_as : S → T) (thread : ℕ)
    (old new : List (Successor T)) where
  -- this state is appended to the others, as itself or by its label, as the thread's step, with a right finding; where
  -- there is no state the list is unchanged
  abbrev pub Puts : Option S → Type 0
  Puts None = new ≡ old
  Puts (Some next) =
      (x : Successor T) × (new ≡ old ++ x ∷ []) × (x.thread ≡ thread) × (x.state ≡ put_as next)
      × right next x.finding × m.Fits next

-- the step of a thread is appended so, as far as it has one
abbrev pub PutsStep : {S T : Type 0} → StepMachine S → (S → Finding → Type 0) → (S → T) → S → ℕ
    → List (Successor T) → List (Successor T) → Type 0
PutsStep m right put_as s thread old new = Puts m right put_as thread old new (m.step s thread)
