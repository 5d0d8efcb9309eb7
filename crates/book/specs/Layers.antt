-- Which entries are worked off, by their step counts.
use Rattle.std.specs.Prelude.{◌≡◌, ◌≢◌, ℕ, ◌+◌, ◌<◌, ◌≤◌, ◌⊎◌, true, List}
use Rattle.book.specs.Entries.{Taken, Expanded, Entry, At}
use Rattle.replay.specs.Findings.{is_sound}

-- each entry of at most n steps is expanded
abbrev pub IsExpandedTo : {S : Type 0} → (S → ℕ) → List (Entry S) → ℕ → Type 0
IsExpandedTo {S} steps entries n = (i : ℕ) (e : Entry S) → At entries i e → steps e.state ≤ n → e.mark ≡ Expanded

-- each entry of fewer than n steps is expanded
abbrev pub IsExpandedBelow : {S : Type 0} → (S → ℕ) → List (Entry S) → ℕ → Type 0
IsExpandedBelow {S} steps entries n = (i : ℕ) (e : Entry S) → At entries i e → steps e.state < n → e.mark ≡ Expanded

-- some entry of at most n steps is not expanded
abbrev pub IsLeftTo : {S : Type 0} → (S → ℕ) → List (Entry S) → ℕ → Type 0
IsLeftTo {S} steps entries n = (i : ℕ) × (e : Entry S) × At entries i e × (e.mark ≢ Expanded) × (steps e.state ≤ n)

-- no entry has more than n steps
abbrev pub IsShallow : {S : Type 0} → (S → ℕ) → List (Entry S) → ℕ → Type 0
IsShallow {S} steps entries n = (i : ℕ) (e : Entry S) → At entries i e → steps e.state ≤ n

-- no entry is taken
abbrev pub NoneTaken : {S : Type 0} → List (Entry S) → Type 0
NoneTaken {S} entries = (i : ℕ) (e : Entry S) → At entries i e → e.mark ≢ Taken

-- Each entry of the new list is one of the old with the same state and finding, which is expanded still if it was,
-- or has one step more than an old one that was not expanded
abbrev pub GrowsFrom : {S : Type 0} → (S → ℕ) → List (Entry S) → List (Entry S) → Type 0
GrowsFrom {S} steps old new = (j : ℕ) (f : Entry S) → At new j f
    → ((e : Entry S) × At old j e × (f.state ≡ e.state) × (f.finding ≡ e.finding)
    × (e.mark ≡ Expanded → f.mark ≡ Expanded))
    ⊎ ((k : ℕ) × (e : Entry S) × At old k e × (e.mark ≢ Expanded) × (steps f.state ≡ steps e.state + 1))

-- every entry of fewer than n steps is expanded, and every one of at most n is sound
pub record IsThrough {S : Type 0} (steps : S → ℕ) (entries : List (Entry S)) (n : ℕ) : Type 0 where
  pub done : (i : ℕ) (e : Entry S) → At entries i e → steps e.state < n → e.mark ≡ Expanded
  pub sound : (i : ℕ) (e : Entry S) → At entries i e → steps e.state ≤ n → is_sound e.finding ≡ true
