-- When a book is lawful.
use Rattle.std.specs.Prelude.{◌≡◌, ◌≢◌, ℕ, ◌+◌, ◌<◌, ◌≤◌, Some, None, List, length, map, slice_get, sum_by}
use Rattle.std.specs.Prelude.{if◌then◌else◌}
use Rattle.book.specs.Entries.{Finding, Taken, Expanded, Origin, Entry, Successor, Contents, At, is_expanded}
use Rattle.replay.specs.Schedule.{StepMachine, enabled_threads, run}
use Rattle.book.specs.Layers.{IsExpandedBelow}

module _ {S : Type 0} (m : StepMachine S) where
  -- e is the step of an earlier entry, which is expanded, by the recorded thread
  pub record IsStep (entries : List (Entry S)) (i : ℕ) (e : Entry S) : Type 0 where
    pub origin : Origin
    pub parent : Entry S
    pub recorded : e.origin ≡ Some origin
    pub earlier : origin.parent < i
    pub entered : At entries origin.parent parent
    pub expanded : parent.mark ≡ Expanded
    pub step : m.step parent.state origin.thread ≡ Some e.state

module _ {S : Type 0} (m : StepMachine S) (Same : S → S → Type 0) where
  -- an entry has the same state, with at most its steps
  abbrev pub StandsFor : List (Entry S) → S → Type 0
  StandsFor entries s = (i : ℕ) × (e : Entry S) × At entries i e × Same e.state s
      × (m.steps e.state ≤ m.steps s)

  -- Where each entry of fewer than n steps is expanded, and a state is stood for, so is every state of at most n steps
  -- that a schedule reaches from it
  abbrev pub StandsForReached : List (Entry S) → Type 0
  StandsForReached entries = (n : ℕ) → IsExpandedBelow m.steps entries n
      → (c : List ℕ) (r s : S) → m.Fits r → StandsFor entries r → run m r c ≡ Some s → m.steps r + length c ≤ n
      → StandsFor entries s

module _ {S : Type 0} (m : StepMachine S) (Same : S → S → Type 0) (right : S → Finding → Type 0) where
  -- each finding that is right of a state is right of all that are the same
  abbrev pub FindsAlike : Type 0
  FindsAlike = (r s : S) → m.Fits r → m.Fits s → Same r s → (finding : Finding) → right r finding
      → right s finding

  pub record IsLawful (entries : List (Entry S)) : Type 0 where
    -- entry 0 is the start
    pub start : (e : Entry S) × At entries 0 e × (e.state ≡ m.start) × (e.origin ≡ None)
    pub origins : (i : ℕ) (e : Entry S) → At entries i e → 0 < i → IsStep m entries i e
    pub distinct : (i j : ℕ) (e f : Entry S) → At entries i e → At entries j f → Same e.state f.state → i ≡ j
    pub findings : (i : ℕ) (e : Entry S) → At entries i e → right e.state e.finding
    -- each entry's value is a state of the machine
    pub fit : (i : ℕ) (e : Entry S) → At entries i e → m.Fits e.state
    -- every enabled step of an expanded entry is stood for
    pub stands : (i t : ℕ) (e : Entry S) (s : S) → At entries i e → e.mark ≡ Expanded → m.step e.state t ≡ Some s
        → StandsFor m Same entries s
    -- step counts never fall along the numbers
    pub ordered : (i j : ℕ) (e f : Entry S) → At entries i e → At entries j f → i ≤ j
        → m.steps e.state ≤ m.steps f.state
    -- a taken entry has the least step count of those not expanded
    pub least : (i j : ℕ) (e f : Entry S) → At entries i e → e.mark ≡ Taken → At entries j f → f.mark ≢ Expanded
        → m.steps e.state ≤ m.steps f.state
    -- no entry has more than one step above that least
    pub near : (i j : ℕ) (e f : Entry S) → At entries i e → e.mark ≢ Expanded → At entries j f
        → m.steps f.state ≤ m.steps e.state + 1

module _ {S : Type 0} (m : StepMachine S) (right : S → Finding → Type 0) where
  -- all enabled steps of a state, in the order of the threads, each with a right finding
  pub record IsExpansion (s : S) (xs : List (Successor S)) : Type 0 where
    pub threads : map (λ x. x.thread) xs ≡ enabled_threads m s
    pub steps : (k : ℕ) (x : Successor S) → slice_get xs k ≡ Some x → m.step s x.thread ≡ Some x.state
    pub findings : (k : ℕ) (x : Successor S) → slice_get xs k ≡ Some x → right x.state x.finding
    pub fit : (k : ℕ) (x : Successor S) → slice_get xs k ≡ Some x → m.Fits x.state

module _ {S : Type 0} (m : StepMachine S) where
  -- how many steps a state has, if its entry is expanded
  abbrev pub steps_entered : Entry S → ℕ
  steps_entered e = if is_expanded e.mark then length (enabled_threads m e.state) else 0

module _ {X S : Type 0} (m : StepMachine S) (Same : S → S → Type 0) (right : S → Finding → Type 0) where
  -- a lawful book: its entries are, they are no more than its limit, and each step of an expanded entry made a new
  -- entry or reached a known state
  pub record IsLawfulBook (book : Contents X S) : Type 0 where
    pub law : IsLawful m Same right book.entries
    pub within : length book.entries ≤ book.limit
    pub limit : book.limit ≤ 2000000
    pub counted : length book.entries + book.met ≡ 1 + sum_by (steps_entered m) book.entries
