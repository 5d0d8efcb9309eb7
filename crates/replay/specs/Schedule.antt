-- A step machine as a whole: its schedules, and the states that they lead to.
use Rattle.std.specs.Prelude.{◌↔◌, ◌≡◌, ℕ, ◌+◌, ◌<◌, ◌≤◌, Bool, true, Option, Some, is_some, List, [], ◌∷◌, length}
use Rattle.std.specs.Prelude.{filter}
use Rattle.std.specs.List.{range_with_len}
use Rattle.std.specs.Option.{option_and_then}

-- where it starts, where the step of a thread leads (none: the thread is not enabled), how many steps a state
-- has behind it, how many threads there are, and which values are states of it
pub record StepMachine (S : Type 0) : Type 1 where
  pub start : S
  pub step : S → ℕ → Option S
  pub steps : S → ℕ
  pub threads : ℕ
  pub Fits : S → Type 0

module _ {S : Type 0} (m : StepMachine S) where
  -- the state that the threads of a schedule lead to from s, if each is enabled in its turn
  abbrev pub run : S → List ℕ → Option S
  run s [] = Some s
  run s (t ∷ c) = option_and_then (λ r. run r c) (m.step s t)

  -- the state after a schedule, if it is lawful
  abbrev pub after : List ℕ → Option S
  after c = run m.start c

  -- some schedule of at most n steps leads to the state
  abbrev pub IsReachableWithin : ℕ → S → Type 0
  IsReachableWithin n s = (c : List ℕ) × (length c ≤ n) × (after c ≡ Some s)

  -- the threads that are enabled, in order
  abbrev pub enabled_threads : S → List ℕ
  enabled_threads s = filter (λ t. is_some (m.step s t)) (range_with_len 0 m.threads)

-- what every step machine keeps
pub record IsMachine {S : Type 0} (m : StepMachine S) : Type 0 where
  pub from_zero : m.steps m.start ≡ 0
  pub one_more : (s r : S) (t : ℕ) → m.step s t ≡ Some r → m.steps r ≡ m.steps s + 1
  pub threads_bounded : m.threads < 256
  pub is_thread : (s r : S) (t : ℕ) → m.step s t ≡ Some r → t < m.threads
  pub start_fits : m.Fits m.start
  pub step_fits : (s r : S) (t : ℕ) → m.Fits s → m.step s t ≡ Some r → m.Fits r

-- the test counts the two states as one
abbrev pub AreOneBy : {S : Type 0} → (S → S → Bool) → S → S → Type 0
AreOneBy same r s = same r s ≡ true

-- A test of states that counts two states as one: it is an equivalence, and states of the machine that it counts as one
-- step alike
pub record Merges {S : Type 0} (m : StepMachine S) (same : S → S → Bool) : Type 0 where
  pub itself : (s : S) → same s s ≡ true
  pub turned : (r s : S) → same r s ≡ true → same s r ≡ true
  pub joined : (r s u : S) → same r s ≡ true → same s u ≡ true → same r u ≡ true
  pub steps_alike : (r s u : S) (t : ℕ) → m.Fits r → m.Fits s → same r s ≡ true → m.step s t ≡ Some u
      → (v : S) × (m.step r t ≡ Some v) × (same v u ≡ true)

-- some test counts just those states of the machine as one that are the same, and states that it counts as one step
-- alike
abbrev pub IsDecided : {S : Type 0} → StepMachine S → (S → S → Type 0) → Type 0
IsDecided {S} m Same = (same : S → S → Bool) × Merges m same
    × ((r s : S) → m.Fits r → m.Fits s → (same r s ≡ true) ↔ Same r s)
