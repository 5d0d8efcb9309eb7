-- How many states schedules of at most n steps reach.
use Rattle.std.specs.Prelude.{◌≡◌, ℕ, ◌<◌, Some, List, length, slice_get}
use Rattle.replay.specs.Schedule.{StepMachine, IsReachableWithin}

-- k states, each reached by a schedule of at most n steps: no two are the same, and each state that is so reached is
-- the same as one of them
pub record IsCount {S : Type 0} (m : StepMachine S) (Same : S → S → Type 0) (n k : ℕ) : Type 0 where
  pub states : List S
  pub many : length states ≡ k
  pub apart : (i j : ℕ) (x y : S) → slice_get states i ≡ Some x → slice_get states j ≡ Some y → Same x y → i ≡ j
  pub reached : (i : ℕ) (x : S) → slice_get states i ≡ Some x → IsReachableWithin m n x
  pub all : (s : S) → IsReachableWithin m n s → (i : ℕ) × (x : S) × (slice_get states i ≡ Some x) × Same x s

-- more than k states are each reached by a schedule of at most n steps, and no two of them are the same
pub record IsMoreThan {S : Type 0} (m : StepMachine S) (Same : S → S → Type 0) (n k : ℕ) : Type 0 where
  pub states : List S
  pub many : k < length states
  pub apart : (i j : ℕ) (x y : S) → slice_get states i ≡ Some x → slice_get states j ≡ Some y → Same x y → i ≡ j
  pub reached : (i : ℕ) (x : S) → slice_get states i ≡ Some x → IsReachableWithin m n x
