-- Entries by their labels: what is taken from a book, worked on without it, and entered.
use Rattle.std.specs.Prelude.{◌≡◌, ℕ, ◌<◌, Option, List, map}
use Rattle.sched_program.specs.Program.{Program}
use Rattle.tree_machine.specs.Rules.{Rules}
use Rattle.tree_machine.specs.Step.{Fits}
use Rattle.tree_machine.specs.declared.state.State.{State}
use Rattle.book.specs.Books.{CountsAsOne}
use Rattle.book.specs.Entries.{Contents, Entry, Steps, At, IsFullFor, IsTaken, Finding, Successor}
use Rattle.book.specs.Expanding.{PutsStep}
use Rattle.replay.specs.Findings.{machine_of, IsFindingOf}
use Rattle.book.specs.Labels.{HoldsOfLabel, label_by, labelled, steps_of}
use Rattle.book.specs.Law.{IsExpansion}
use Rattle.replay.specs.Schedule.{StepMachine}
use Rattle.book.specs.declared.book.EnterFault.{EnterFault}
use Rattle.book.specs.declared.book.EnterFault.TheVariants.{NotTaken, Stranger, Full, OutOfMemory}
use Rattle.options.specs.declared.options.Merge.{Merge}
use Rattle.book.specs.declared.expanding.EntryKey.{EntryKey}

-- labelled steps are all enabled steps of a state, each with a right finding and by its label
pub record AreStepsOf {S : Type 0} (m : StepMachine S) (right : S → Finding → Type 0) (label_of : S → List ℕ) (s : S)
    (xs : List (Successor (List ℕ))) : Type 0 where
  pub expansion : IsExpansion m right s (steps_of m.step s xs)
  pub labels : xs ≡ map (labelled label_of) (steps_of m.step s xs)

-- an entry by its number and its label, with the machine, the program and the merge of its book
pub record Key (X : Type 0) : Type 0 where
  pub id : ℕ
  pub machine : X
  pub program : Program
  pub merge : Merge
  pub label : List ℕ

abbrev pub key_of : {X : Type 0} → EntryKey X → Key X
key_of key =
    record {
      id = key.id;
      machine = key.machine;
      program = key.program.now;
      merge = key.merge;
      label = key.label;
    }

-- an entry of a book of this machine and program
abbrev pub IsOf : {X : Type 0} → X → Program → Key X → Type 0
IsOf machine program key = (key.machine ≡ machine) × (key.program ≡ program)

-- what a taken entry shows: the entry, and what was found of its state
pub record TakenView (X : Type 0) : Type 0 where
  pub key : Key X
  pub finding : Finding

-- what an expanded entry shows: the entry, and its labelled steps
pub record ExpandedView (X : Type 0) : Type 0 where
  pub key : Key X
  pub steps : List (Successor (List ℕ))

module _ {Machine Memory Place Form : Type 0} (rules : Machine → Rules Memory Place)
    (own_code : Memory → List (Option Place) → List ℕ) (form_code : Form → List ℕ)
    (form_of : Machine → Memory → List (Option Place) → Form) where
  -- the label of a state in the book of an entry
  abbrev pub label_in : Key Machine → State Machine Memory Place Form → List ℕ
  label_in key = label_by own_code form_code (form_of key.machine) key.merge

  -- a state of the program has the label, and this is what was found of it
  pub record IsTakenOf (taken : TakenView Machine) : Type 0 where
    pub state : State Machine Memory Place Form
    pub fits : Fits (rules taken.key.machine) taken.key.program state
    pub bounded : state.steps < 2000000
    pub label : label_in taken.key state ≡ taken.key.label
    pub finding : IsFindingOf (rules taken.key.machine) taken.key.program state taken.finding

  -- it holds of whichever state of the program has the label
  abbrev pub HoldsOfKey : Key Machine → (State Machine Memory Place Form → Type 0) → Type 0
  HoldsOfKey key Holds = HoldsOfLabel (rules key.machine) key.program (label_in key) key.label Holds

  -- whichever state has the label, these are its steps
  abbrev pub IsExpandedOf : ExpandedView Machine → Type 0
  IsExpandedOf expanded =
      let key = expanded.key in
      HoldsOfKey key (λ state. AreStepsOf (machine_of (rules key.machine) key.program)
      (IsFindingOf (rules key.machine) key.program) (label_in key) state expanded.steps)

  -- whichever state has the label, the step of a thread of it is appended to others
  abbrev pub PutsStepOf : Key Machine → ℕ → List (Successor (List ℕ)) → List (Successor (List ℕ)) → Type 0
  PutsStepOf key thread old new =
      HoldsOfKey key (λ state. PutsStep (machine_of (rules key.machine) key.program)
      (IsFindingOf (rules key.machine) key.program) (label_in key) state thread old new)

-- what labelled steps say of an entry of this state
abbrev pub expansion_of : {Machine Memory Place Form : Type 0} → (Machine → Rules Memory Place) → ExpandedView Machine
    → State Machine Memory Place Form → Steps Machine (State Machine Memory Place Form)
expansion_of rules expanded state =
    record {
      machine = expanded.key.machine;
      program = expanded.key.program;
      source = state;
      successors = steps_of (machine_of (rules expanded.key.machine) expanded.key.program).step state expanded.steps;
    }

-- it is this entry of the book, by its label
pub record IsEntryOf {X S : Type 0} (label_of : S → List ℕ) (book : Contents X S) (key : Key X) : Type 0 where
  pub machine : key.machine ≡ book.machine
  pub program : key.program ≡ book.program
  pub merge : key.merge ≡ book.merge
  pub label : (e : Entry S) → At book.entries key.id e → label_of e.state ≡ key.label

module _ {Machine Memory Place Form : Type 0} (rules : Machine → Rules Memory Place)
    (own_code : Memory → List (Option Place) → List ℕ) (form_code : Form → List ℕ)
    (form_of : Machine → Memory → List (Option Place) → Form)
    (book : Contents Machine (State Machine Memory Place Form)) (expanded : ExpandedView Machine) where
  -- it is of an entry of the book
  abbrev pub IsOwnEntry : Type 0
  IsOwnEntry =
      IsEntryOf (label_by own_code form_code (form_of book.machine) book.merge) book expanded.key

  -- when the steps of an entry are refused, and for what
  abbrev pub RefusesEntry : EnterFault → Type 0
  RefusesEntry NotTaken = IsTaken book.entries expanded.key.id → ⊥
  RefusesEntry Stranger = IsTaken book.entries expanded.key.id × (IsOwnEntry → ⊥)
  RefusesEntry Full = IsTaken book.entries expanded.key.id × IsOwnEntry
      × ((e : Entry (State Machine Memory Place Form)) → At book.entries expanded.key.id e
      → IsFullFor (CountsAsOne (rules book.machine) book.merge) book (expansion_of rules expanded e.state).successors)
  RefusesEntry OutOfMemory = IsTaken book.entries expanded.key.id × IsOwnEntry
