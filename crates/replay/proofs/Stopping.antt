-- A schedule of which a first part reaches no state reaches none.
use Rattle.std.proofs.Common.{◌≡◌, ℕ, zero, suc, Option, Some, None, List, [], ◌∷◌, take, refl}
use Rattle.std.specs.Option.{option_and_then}
use Rattle.replay.specs.Schedule.{StepMachine, run}

module _ {S : Type 0} (m : StepMachine S) where
  stopped_from : (c : List ℕ) (i : ℕ) → ((r : S) → run m r (take i c) ≡ None → run m r c ≡ None)
      → (o : Option S) → option_and_then (λ r. run m r (take i c)) o ≡ None
      → option_and_then (λ r. run m r c) o ≡ None
  stopped_from c i rest None none = refl
  stopped_from c i rest (Some r) none = rest r none

  pub stopped : (s : S) (c : List ℕ) (i : ℕ) → run m s (take i c) ≡ None → run m s c ≡ None
  stopped s [] zero none = none
  stopped s [] (suc i) none = none
  stopped s (t ∷ c) zero none = absurd (let q : Some s ≡ None = none in cc)
  stopped s (t ∷ c) (suc i) none = stopped_from c i (λ r. stopped r c i) (m.step s t) none
