-- The labels by which a book knows states.
use Rattle.std.specs.Prelude.{◌≡◌, ℕ, Bool, Option, List, map, nat_eq, unwrap_or}
use Rattle.std.specs.Cmp.Lexicographic.{pointwise}
use Rattle.tree_machine.specs.FormCode.{label_code}
use Rattle.sched_program.specs.Program.{Program}
use Rattle.tree_machine.specs.Rules.{Rules}
use Rattle.tree_machine.specs.Step.{Fits}
use Rattle.tree_machine.specs.declared.state.State.{State}
use Rattle.book.specs.Entries.{Entry, Successor}
use Rattle.tree_machine.specs.declared.naming.Naming.{Naming}
use Rattle.tree_machine.specs.declared.naming.Naming.TheVariants.{Own, Canonical}
use Rattle.options.specs.declared.options.Merge.{Merge}
use Rattle.options.specs.declared.options.Merge.TheVariants.{Exact, Names}

-- the numbers by which labels name nodes and records
abbrev pub naming_of : Merge → Naming
naming_of Exact = Own
naming_of Names = Canonical

-- the bytes by which a state is known, given those of memories with the places held, those of forms, and what the
-- machine's form is: with exact merging the bytes of the whole state, by names those of its form
abbrev pub label_by : {Machine Memory Place Form : Type 0} → (Memory → List (Option Place) → List ℕ) → (Form → List ℕ)
    → (Memory → List (Option Place) → Form) → Merge → State Machine Memory Place Form → List ℕ
label_by own_code form_code form_of merge = label_code (naming_of merge) own_code form_code form_of

-- it holds of whichever state of the program has the label
abbrev pub HoldsOfLabel : {Machine Memory Place Form : Type 0} → Rules Memory Place → Program
    → (State Machine Memory Place Form → List ℕ) → List ℕ → (State Machine Memory Place Form → Type 0) → Type 0
HoldsOfLabel {Machine} {Memory} {Place} {Form} rules program label_of label Holds =
    (state : State Machine Memory Place Form) → Fits rules program state → label_of state ≡ label → Holds state

-- a step with the label of the state that it reaches in place of the state
abbrev pub labelled : {S : Type 0} → (S → List ℕ) → Successor S → Successor (List ℕ)
labelled label_of x = record { thread = x.thread; state = label_of x.state; finding = x.finding }

-- the steps of a state by these threads, each with the finding beside its label
abbrev pub steps_of : {S : Type 0} → (S → ℕ → Option S) → S → List (Successor (List ℕ)) → List (Successor S)
steps_of step s xs =
    map (λ x. record { thread = x.thread; state = unwrap_or (step s x.thread) s; finding = x.finding }) xs

-- what a table shows: its entries, and the label by which the state of each is known
pub record Kept (S : Type 0) : Type 0 where
  pub entries : List (Entry S)
  pub labels : List (List ℕ)

-- each state is known by the label that this gives
abbrev pub AreKnownBy : {S : Type 0} → (S → List ℕ) → Kept S → Type 0
AreKnownBy label_of kept = kept.labels ≡ map (λ e. label_of e.state) kept.entries

-- whether two labels are the same
abbrev pub same_label : List ℕ → List ℕ → Bool
same_label a b = pointwise nat_eq a b

-- whether the labels of two states are
abbrev pub same_as : {S : Type 0} → (S → List ℕ) → S → S → Bool
same_as label_of r s = same_label (label_of r) (label_of s)
