-- When an answer can be read off a book, and what it then is.
use Rattle.std.specs.Prelude.{◌≡◌, ◌≢◌, ℕ, ◌+◌, ◌<◌, ◌≤◌, true, Option, None, Some, List, length, not, position}
use Rattle.tree_machine.specs.Rules.{Rules}
use Rattle.tree_machine.specs.declared.state.State.{State}
use Rattle.book.specs.declared.successor.Successor.{Successor}
use Rattle.replay.specs.declared.finding.Finding.{Finding}
use Rattle.book.specs.declared.entry.Mark.TheVariants.{Taken, Expanded}
use Rattle.replay.specs.Schedule.{StepMachine, after}
use Rattle.replay.specs.Findings.{is_sound}
use Rattle.book.specs.Entries.{Entry, Contents, At, IsFullFor}
use Rattle.book.specs.Books.{CountsAsOne, machine_in, right_in}
use Rattle.book.specs.Law.{IsExpansion}
use Rattle.book.specs.Closed.{IsClosed}
use Rattle.options.specs.declared.options.Merge.{Merge}
use Rattle.options.specs.declared.options.Merge.TheVariants.{Names}
use Rattle.book.specs.Layers.{IsExpandedBelow, IsShallow, IsThrough, NoneTaken}
use Rattle.reports.specs.declared.answer.Answer.{Answer}
use Rattle.reports.specs.declared.answer.Answer.TheVariants as answer
use Rattle.reports.specs.Due.{IsDue}
use Rattle.reports.specs.Headline.{IsTrueOf}

-- the number of the lowest-numbered entry that is not sound
abbrev pub first_fault : {S : Type 0} → List (Entry S) → Option ℕ
first_fault entries = position (λ e. not (is_sound e.finding)) entries

-- layer n is the last: every entry of fewer than n steps is expanded, and none has more
abbrev pub IsLastLayer : {S : Type 0} → (S → ℕ) → List (Entry S) → ℕ → Type 0
IsLastLayer steps entries n = IsExpandedBelow steps entries n × IsShallow steps entries n

-- states are merged by names, and no entry has n steps or more
abbrev pub IsAtRest : {S : Type 0} → (S → ℕ) → List (Entry S) → Merge → ℕ → Type 0
IsAtRest steps entries merge n = (merge ≡ Names) × (before : ℕ) × (n ≡ before + 1) × IsShallow steps entries before

-- no entry of n steps is expanded
abbrev pub IsFresh : {S : Type 0} → (S → ℕ) → List (Entry S) → ℕ → Type 0
IsFresh {S} steps entries n = (i : ℕ) (e : Entry S) → At entries i e → steps e.state ≡ n → e.mark ≢ Expanded

-- the layers below d are expanded and their entries are sound, none of layer d is expanded, and no layer after it is
-- begun
pub record StandsAt {S : Type 0} (steps : S → ℕ) (entries : List (Entry S)) (d : ℕ) : Type 0 where
  pub none_taken : NoneTaken entries
  pub done : IsExpandedBelow steps entries d
  pub fresh : IsFresh steps entries d
  pub shallow : IsShallow steps entries d
  pub sound : (i : ℕ) (e : Entry S) → At entries i e → steps e.state < d → is_sound e.finding ≡ true

-- the layers below n are expanded, or those below the first with a fault
pub record IsWorkedOff {S : Type 0} (steps : S → ℕ) (entries : List (Entry S)) (n : ℕ) : Type 0 where
  pub layer : ℕ
  pub within : layer ≤ n
  pub stands : StandsAt steps entries layer
  pub all : first_fault entries ≡ None → IsExpandedBelow steps entries n

module _ {X S : Type 0} (m : StepMachine S) (Same : S → S → Type 0) (right : S → Finding → Type 0)
    (book : Contents X S) where
  -- entry i is taken, and the book has no room for its steps
  pub record IsFullAt (i : ℕ) : Type 0 where
    pub entry : Entry S
    pub at : At book.entries i entry
    pub taken : entry.mark ≡ Taken
    pub successors : List (Successor S)
    pub expansion : IsExpansion m right entry.state successors
    pub full : IsFullFor Same book successors

  -- layer d is cut at its entry i: the book has no room for the entry's steps, and every entry of at most d steps is
  -- sound
  pub record IsCutAt (d i : ℕ) : Type 0 where
    pub no_room : IsFullAt i
    pub layer : m.steps no_room.entry.state ≡ d
    pub through : IsThrough m.steps book.entries d

-- a reported fault is that of the lowest-numbered entry that is not sound
abbrev pub TellsFirst : {S : Type 0} → StepMachine S → List (Entry S) → Answer → Type 0
TellsFirst m entries answer.Every = first_fault entries ≡ None
TellsFirst m entries (answer.Holds steps) = first_fault entries ≡ None
TellsFirst {S} m entries (answer.Fault finding schedule) =
    (i : ℕ) × (e : Entry S) × (first_fault entries ≡ Some i) × At entries i e × (e.finding ≡ finding)
    × (after m schedule.items ≡ Some e.state)
TellsFirst m entries (answer.Stopped limit holds_to) = Unit {0}

-- where neither a fault nor the limit is reported, every schedule holds exactly if the book is closed
abbrev pub TellsClosed : {X S : Type 0} → Contents X S → Answer → Type 0
TellsClosed book answer.Every = IsClosed book
TellsClosed book (answer.Holds steps) = ¬ IsClosed book
TellsClosed book (answer.Fault finding schedule) = Unit {0}
TellsClosed book (answer.Stopped limit holds_to) = Unit {0}

module _ {X Memory Place Form : Type 0} (rules : X → Rules Memory Place)
    (book : Contents X (State X Memory Place Form)) where
  -- entry i is taken, and the book has no room for its steps
  abbrev pub IsFullIn : ℕ → Type 0
  IsFullIn = IsFullAt (machine_in rules book) (CountsAsOne (rules book.machine) book.merge) (right_in rules book) book

  -- layer d is cut at its entry i
  abbrev pub IsCutIn : ℕ → ℕ → Type 0
  IsCutIn = IsCutAt (machine_in rules book) (CountsAsOne (rules book.machine) book.merge) (right_in rules book) book

  -- the answer is the due one for at most n steps and the book's limit, and true; and it reports the book's first
  -- fault, and whether the book is closed
  pub record IsReadOff (n : ℕ) (answer : Answer) : Type 0 where
    pub due : IsDue (machine_in rules book) (CountsAsOne (rules book.machine) book.merge) (right_in rules book)
        book.merge n book.limit (length book.entries) answer
    pub headline : IsTrueOf X Form (rules book.machine) book.program answer
    pub first : TellsFirst (machine_in rules book) book.entries answer
    pub closed : TellsClosed book answer
