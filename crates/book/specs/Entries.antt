-- The entries of a book.
use Rattle.std.specs.Prelude.{◌≡◌, ◌≢◌, ℕ, zero, suc, ◌+◌, ◌-◌, ◌<◌, ◌≤◌, ◌⊎◌, Bool, true, false, Option, Some, List}
use Rattle.std.specs.Prelude.{[], ◌∷◌, ◌++◌, length, map, slice_get}
use Rattle.std.specs.List.{range_with_len}
use Rattle.std.specs.declared.sync.Arc.{Arc}
pub use Rattle.replay.specs.declared.finding.Finding.{Finding}
pub use Rattle.book.specs.declared.entry.Mark.{Mark}
pub use Rattle.book.specs.declared.entry.Mark.TheVariants.{Open, Taken, Expanded}
pub use Rattle.book.specs.declared.entry.Origin.{Origin}
pub use Rattle.book.specs.declared.successor.Successor.{Successor}
use Rattle.options.specs.declared.options.Merge.{Merge}
use Rattle.options.specs.declared.options.Merge.TheVariants.{Exact}
use Rattle.sched_program.specs.Program.{Program}
use Rattle.book.specs.declared.book.EnterFault.{EnterFault}
use Rattle.book.specs.declared.book.EnterFault.TheVariants.{NotTaken, Stranger, Full, OutOfMemory}

-- an entry: its state, its finding, the entry and the thread of the step that reached it, and how far it is worked on
pub record Entry (S : Type 0) : Type 0 where
  pub state : S
  pub finding : Finding
  pub origin : Option Origin
  pub mark : Mark

abbrev pub is_open : Mark → Bool
is_open Open = true
is_open Taken = false
is_open Expanded = false

abbrev pub is_taken : Mark → Bool
is_taken Open = false
is_taken Taken = true
is_taken Expanded = false

abbrev pub is_expanded : Mark → Bool
is_expanded Open = false
is_expanded Taken = false
is_expanded Expanded = true

module _ {S : Type 0} where
  -- entry i is e
  abbrev pub At : List (Entry S) → ℕ → Entry S → Type 0
  At entries i e = slice_get entries i ≡ Some e

  -- the entries with another mark at i
  abbrev pub with_mark : List (Entry S) → ℕ → Mark → List (Entry S)
  with_mark [] i mark = []
  with_mark (e ∷ es) zero mark = record e { mark = mark } ∷ es
  with_mark (e ∷ es) (suc i) mark = e ∷ with_mark es i mark

  -- the entries with another mark at each of the numbers
  abbrev pub with_marks : List (Entry S) → List ℕ → Mark → List (Entry S)
  with_marks entries [] mark = entries
  with_marks entries (i ∷ is) mark = with_marks (with_mark entries i mark) is mark

  -- one of the states is the same as s
  abbrev pub Knows : (S → S → Type 0) → List S → S → Type 0
  Knows Same known s = (k : ℕ) × (r : S) × (slice_get known k ≡ Some r) × Same r s

  -- the successors, in order, whose states are the same as none that is known, nor as that of an earlier one
  abbrev pub AreNew : (S → S → Type 0) → List S → List (Successor S) → List (Successor S) → Type 0
  AreNew Same known [] new = new ≡ []
  AreNew Same known (x ∷ xs) new =
      (Knows Same known x.state × AreNew Same known xs new)
      ⊎ ((Knows Same known x.state → ⊥)
      × ((rest : List (Successor S)) × (new ≡ x ∷ rest) × AreNew Same (known ++ x.state ∷ []) xs rest))

  -- an open entry for a successor of entry i
  abbrev pub opened : ℕ → Successor S → Entry S
  opened i x =
      record {
        state = x.state;
        finding = x.finding;
        origin = Some (record { parent = i; thread = x.thread });
        mark = Open;
      }

  abbrev pub states : List (Entry S) → List S
  states entries = map (λ e. e.state) entries

-- i is the lowest-numbered open entry among those of the fewest steps that are not expanded
pub record IsNext {S : Type 0} (steps : S → ℕ) (entries : List (Entry S)) (i : ℕ) (e : Entry S) : Type 0 where
  pub entry : At entries i e
  pub is_open : e.mark ≡ Open
  pub fewest : (j : ℕ) (f : Entry S) → At entries j f → f.mark ≢ Expanded → steps e.state ≤ steps f.state
  pub lowest : (j : ℕ) (f : Entry S) → At entries j f → f.mark ≡ Open → steps f.state ≡ steps e.state → i ≤ j

-- what an expansion shows: a machine, a program, a state of it, and the state's enabled steps
pub record Steps (X S : Type 0) : Type 0 where
  pub machine : X
  pub program : Program
  pub source : S
  pub successors : List (Successor S)

-- what a book shows: its machine and program, which states it counts as one, how many entries it may have, its entries,
-- and how many steps reached known states
pub record Contents (X S : Type 0) : Type 0 where
  pub machine : X
  pub program : Program
  pub merge : Merge
  pub limit : ℕ
  pub entries : List (Entry S)
  pub met : ℕ

abbrev pub contents_of : {X S : Type 0} → X → Program → Merge → ℕ → List (Entry S) → ℕ → Contents X S
contents_of machine program merge limit entries met =
    record {
      machine = machine;
      program = program;
      merge = merge;
      limit = limit;
      entries = entries;
      met = met;
    }

-- entry i, which was next, is taken; its state is s
pub record Takes {S : Type 0} (steps : S → ℕ) (old new : List (Entry S)) (i : ℕ) (s : S) : Type 0 where
  pub entry : Entry S
  pub next : IsNext steps old i entry
  pub state : entry.state ≡ s
  pub after : new ≡ with_mark old i Taken

-- entry i is open, no entry that is not expanded has fewer steps, and its state is s
pub record IsInLayer {S : Type 0} (steps : S → ℕ) (entries : List (Entry S)) (i : ℕ) (s : S) : Type 0 where
  pub entry : Entry S
  pub there : At entries i entry
  pub is_open : entry.mark ≡ Open
  pub state : entry.state ≡ s
  pub fewest : (j : ℕ) (f : Entry S) → At entries j f → f.mark ≢ Expanded → steps s ≤ steps f.state

-- The open entries of the fewest steps of those that are not expanded, each by its number and its state in the order of
-- the numbers, are taken, and no others; then none is next
pub record TakesLayer {S A : Type 0} (steps : S → ℕ) (old new : List (Entry S)) (layer : List (ℕ × Arc S A)) : Type
    0 where
  pub each : (k : ℕ) (p : ℕ × Arc S A) → slice_get layer k ≡ Some p → IsInLayer steps old p.0 p.1.value
  pub ascending : (j k : ℕ) (p q : ℕ × Arc S A) → slice_get layer j ≡ Some p → slice_get layer k ≡ Some q → j < k
      → p.0 < q.0
  pub after : new ≡ with_marks old (map (λ p. p.0) layer) Taken
  pub none_next : (i : ℕ) (e : Entry S) → IsNext steps new i e → ⊥

-- The entries numbered from a to below z are taken, and no others: each was open, and of the fewest steps of those that
-- are not expanded; then none is next
pub record TakesRange {S : Type 0} (steps : S → ℕ) (old new : List (Entry S)) (a z : ℕ) : Type 0 where
  pub each : (i : ℕ) → a ≤ i → i < z → (s : S) × IsInLayer steps old i s
  pub within : z ≤ length old
  pub row : a ≤ z
  pub after : new ≡ with_marks old (range_with_len a (z - a)) Taken
  pub none_next : (i : ℕ) (e : Entry S) → IsNext steps new i e → ⊥

-- entry i is taken
abbrev pub IsTaken : {S : Type 0} → List (Entry S) → ℕ → Type 0
IsTaken {S} entries i = (e : Entry S) × At entries i e × (e.mark ≡ Taken)

-- the machine, the program and the state are those of entry i of the book
pub record IsOwn {X S : Type 0} (book : Contents X S) (i : ℕ) (x : X) (p : Program) (s : S) : Type 0 where
  pub machine : x ≡ book.machine
  pub program : p ≡ book.program
  pub source : (e : Entry S) → At book.entries i e → s ≡ e.state

-- the expansion of entry i was entered: `entered` of its states are new, in their order, and `met` are known
pub record Enters {X S : Type 0} (Same : S → S → Type 0) (old new : Contents X S) (i : ℕ) (expansion : Steps X S)
    (entered met : ℕ) : Type 0 where
  pub taken : IsTaken old.entries i
  pub own : IsOwn old i expansion.machine expansion.program expansion.source
  pub added : List (Successor S)
  pub are_new : AreNew Same (states old.entries) expansion.successors added
  pub room : length old.entries + entered ≤ old.limit
  pub entries : new.entries ≡ with_mark old.entries i Expanded ++ map (opened i) added
  pub count : entered ≡ length added
  pub each : entered + met ≡ length expansion.successors
  pub met_in_all : new.met ≡ old.met + met
  pub machine : new.machine ≡ old.machine
  pub program : new.program ≡ old.program
  pub merge : new.merge ≡ old.merge
  pub limit : new.limit ≡ old.limit

-- the book has no room for the new ones of these successors
abbrev pub IsFullFor : {X S : Type 0} → (S → S → Type 0) → Contents X S → List (Successor S) → Type 0
IsFullFor {X} {S} Same book xs = (added : List (Successor S)) × AreNew Same (states book.entries) xs added
    × (book.limit < length book.entries + length added)

-- When the expansion of entry i is refused, and for what. By names memory may be refused before it is known whether the
-- expansion is that entry's
abbrev pub Refuses : {X S : Type 0} → (S → S → Type 0) → Contents X S → ℕ → Steps X S → EnterFault → Type 0
Refuses Same book i x NotTaken = IsTaken book.entries i → ⊥
Refuses Same book i x Stranger = IsTaken book.entries i × (IsOwn book i x.machine x.program x.source → ⊥)
Refuses Same book i x Full = IsTaken book.entries i × IsOwn book i x.machine x.program x.source
    × IsFullFor Same book x.successors
Refuses Same book i x OutOfMemory = IsTaken book.entries i
    × (book.merge ≡ Exact → IsOwn book i x.machine x.program x.source)
