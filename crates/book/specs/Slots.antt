-- Rows under keys.
use Rattle.std.specs.Prelude.{◌≡◌, ◌≢◌, ℕ, ◌<◌, ◌≤◌, not, Option, Some, position, slice_get, List, ◌++◌, length, map}
use Rattle.std.specs.Prelude.{take, unwrap_or}
use Rattle.std.specs.declared.sync.Arc.{Arc}
use Rattle.book.specs.Entries.{Open, Expanded, Entry, Successor, At, opened}
use Rattle.book.specs.Labels.{Kept, same_label, steps_of}
use Rattle.book.specs.Unknown.{unknown}
use Rattle.replay.specs.Findings.{is_sound}

-- the rows
abbrev pub entries_of : {S : Type 0} → List (List ℕ × Entry S) → List (Entry S)
entries_of slots = map (λ slot. slot.1) slots

-- the label by which each state is known
abbrev pub labels_of : {S : Type 0} → List (List ℕ × Entry S) → List (List ℕ)
labels_of slots = map (λ slot. slot.0) slots

-- the row for a labelled step of entry `parent`, whose state is s: it is open, and under the label
abbrev pub row_of : {S : Type 0} → (S → ℕ → Option S) → S → ℕ → Successor (List ℕ) → List ℕ × Entry S
row_of step s parent x = (
  x.state,
  opened parent (record { thread = x.thread; state = unwrap_or (step s x.thread) s; finding = x.finding }),
)

-- a table with the rows of those labelled steps, in order, whose labels are neither known nor those of earlier ones
abbrev pub with_rows : {S : Type 0} → (S → ℕ → Option S) → S → ℕ → List (List ℕ × Entry S)
    → List (Successor (List ℕ)) → List (List ℕ × Entry S)
with_rows step s parent slots xs = slots ++ map (row_of step s parent) (unknown same_label (labels_of slots) xs)

-- what it shows
abbrev pub with_steps : {S : Type 0} → (S → ℕ → Option S) → S → ℕ → Kept S → List (Successor (List ℕ)) → Kept S
with_steps step s parent kept xs =
    let new = unknown same_label kept.labels xs in
    record {
      entries = kept.entries ++ map (opened parent) (steps_of step s new);
      labels = kept.labels ++ map (λ x. x.state) new;
    }

-- each number is that of an entry, and the state beside it is the entry's
abbrev pub AreStatesOf : {S A : Type 0} → List (Entry S) → List (ℕ × Arc S A) → Type 0
AreStatesOf {S} {A} entries range = (k : ℕ) (p : ℕ × Arc S A) → slice_get range k ≡ Some p
    → (e : Entry S) × At entries p.0 e × (e.state ≡ p.1.value)

-- P is so of each state
abbrev pub AllStates : {S A : Type 0} → (S → Type 0) → List (ℕ × Arc S A) → Type 0
AllStates {S} {A} P range = (k : ℕ) (p : ℕ × Arc S A) → slice_get range k ≡ Some p → P p.1.value

-- every entry from number `start` on is open
abbrev pub IsOpenFrom : {S : Type 0} → List (Entry S) → ℕ → Type 0
IsOpenFrom {S} entries start = (i : ℕ) (e : Entry S) → At entries i e → start ≤ i → e.mark ≡ Open

-- `left` is the number of the first entry that is not expanded, or the length
pub record IsFirstLeft {S : Type 0} (entries : List (Entry S)) (left : ℕ) : Type 0 where
  pub expanded : (i : ℕ) (e : Entry S) → At entries i e → i < left → e.mark ≡ Expanded
  pub stops : (e : Entry S) → At entries left e → e.mark ≢ Expanded
  pub within : left ≤ length entries

-- The entries from `next_open` on are open and those below it are not, `left` is the first that is not expanded,
-- and `fault` the first that is not sound
pub record AreCursors {S : Type 0} (entries : List (Entry S)) (next_open first_left : ℕ) (fault : Option ℕ) : Type
    0 where
  pub below : (i : ℕ) (e : Entry S) → At entries i e → i < next_open → e.mark ≢ Open
  pub above : (i : ℕ) (e : Entry S) → At entries i e → next_open ≤ i → e.mark ≡ Open
  pub within : next_open ≤ length entries
  pub left : IsFirstLeft entries first_left
  pub first_fault : fault ≡ position (λ e. not (is_sound e.finding)) entries

-- what stood in front still does
abbrev pub IsGrown : {X : Type 0} → List X → List X → Type 0
IsGrown old new = take (length old) new ≡ old
