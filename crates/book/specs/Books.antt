-- A book of the states of a program on a machine.
use Rattle.std.specs.Prelude.{◌≡◌, ◌↔◌, ◌-◌, ℕ, true, List, length, count_by}
use Rattle.sched_program.specs.Program.{IsWithinLimits}
use Rattle.tree_machine.specs.Rules.{Rules}
use Rattle.tree_machine.specs.Alike.{AreStatesAlike}
use Rattle.tree_machine.specs.Step.{Fits}
use Rattle.tree_machine.specs.declared.state.State.{State}
use Rattle.options.specs.declared.options.Merge.{Merge}
use Rattle.options.specs.declared.options.Merge.TheVariants.{Exact, Names}
use Rattle.book.specs.declared.book.Totals.{Totals}
use Rattle.book.specs.Entries.{Finding, Contents, Steps, is_open, is_taken, is_expanded}
use Rattle.replay.specs.Schedule.{AreOneBy, StepMachine, IsMachine, Merges}
use Rattle.replay.specs.Findings.{machine_of, IsFindingOf}
use Rattle.book.specs.Labels.{same_as}
use Rattle.book.specs.Law.{FindsAlike, IsLawfulBook, IsExpansion}

-- which states count as one: equal ones with exact merging, and by names those that are alike
abbrev pub CountsAsOne : {Machine Memory Place Form : Type 0} → Rules Memory Place → Merge
    → State Machine Memory Place Form → State Machine Memory Place Form → Type 0
CountsAsOne rules Exact state twin = state ≡ twin
CountsAsOne rules Names state twin = AreStatesAlike rules state twin

module _ {Machine Memory Place Form : Type 0} (rules : Machine → Rules Memory Place) where
  -- the machine of a book, as it runs the book's program
  abbrev pub machine_in : Contents Machine (State Machine Memory Place Form)
      → StepMachine (State Machine Memory Place Form)
  machine_in book = machine_of (rules book.machine) book.program

  -- the findings that are right in a book
  abbrev pub right_in : Contents Machine (State Machine Memory Place Form) → State Machine Memory Place Form → Finding
      → Type 0
  right_in book = IsFindingOf (rules book.machine) book.program

  -- an expansion holds all enabled steps of its source, each with its right finding
  abbrev pub HoldsSteps : Steps Machine (State Machine Memory Place Form) → Type 0
  HoldsSteps x =
      IsExpansion (machine_of (rules x.machine) x.program) (IsFindingOf (rules x.machine) x.program) x.source
      x.successors

  -- a book is lawful, where states that count as one are the same
  abbrev pub IsLawfulIn : Contents Machine (State Machine Memory Place Form) → Type 0
  IsLawfulIn book =
      IsLawfulBook (machine_in book) (CountsAsOne (rules book.machine) book.merge) (right_in book) book

-- A lawful book of a program that meets the limits, whose labels count its states as one, and what follows for its
-- machine: it is a step machine, and states of it with one label step alike and have the same findings; they are those
-- that count as one.
pub record IsBook {Machine Memory Place Form : Type 0} (rules : Machine → Rules Memory Place)
    (label_of : State Machine Memory Place Form → List ℕ)
    (book : Contents Machine (State Machine Memory Place Form)) : Type 0 where
  pub law : IsLawfulBook (machine_in rules book) (AreOneBy (same_as label_of)) (right_in rules book) book
  pub limits : IsWithinLimits book.program
  pub machine : IsMachine (machine_in rules book)
  pub merges : Merges (machine_in rules book) (same_as label_of)
  pub findings : FindsAlike (machine_in rules book) (AreOneBy (same_as label_of)) (right_in rules book)
  pub counts : (r s : State Machine Memory Place Form) → Fits (rules book.machine) book.program r
      → Fits (rules book.machine) book.program s
      → (same_as label_of r s ≡ true) ↔ CountsAsOne (rules book.machine) book.merge r s

-- the totals of a book
abbrev pub totals_of : {X S : Type 0} → Contents X S → Totals
totals_of book =
    record {
      entries = length book.entries;
      fresh = count_by (λ e. is_open e.mark) book.entries;
      taken = count_by (λ e. is_taken e.mark) book.entries;
      expanded = count_by (λ e. is_expanded e.mark) book.entries;
      entered = length book.entries - 1;
      met = book.met;
    }
