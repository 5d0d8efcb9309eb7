-- What writers that may fail did, and what a call left behind a reference that it may not have been given.
use Rattle.std.specs.Prelude.{◌≡◌, ◌⊎◌, ℕ, List, Option, Result, Ok, Err, ◌++◌}
use Rattle.std.specs.Borrow.{MutBor}
use Rattle.std.proofs.Common.{inl, inr}
use Rattle.std.specs.Io.KnownBytes.{Appends}

-- how many writes of the call failed or took no byte: the call reported the last one
abbrev pub failed_writes : {T E : Type 0} → Result T E → ℕ
failed_writes (Ok _) = 0
failed_writes (Err _) = 1

-- a beginning of the bytes was appended to what the writer held
abbrev pub BeginningWentOut : Option (List ℕ) → Option (List ℕ) → List ℕ → Type 0
BeginningWentOut old new bytes = (gone : List ℕ) × (rest : List ℕ) × (bytes ≡ gone ++ rest) × Appends old new gone

-- what a call left behind the reference in an option meets the fact: the call's end shows the option's variants in turn
abbrev pub LeavesBehind : {N A B C : Type 0} → (A → Type 0) → N ⊎ ((MutBor A × B) ⊎ C) → Type 0
LeavesBehind Holds (inr (inl some)) = Holds some.0.now
LeavesBehind Holds _ = ⊥
