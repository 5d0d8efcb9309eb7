-- The labels by names of states.
use Rattle.std.specs.Prelude.{ℕ, Option, List}
use Rattle.tree_machine.specs.FormCode.{named_code}
use Rattle.tree_machine.specs.declared.state.State.{State}

-- the code of a state by names, given the bytes of forms and what the machine's form is
abbrev pub named_by : {Machine Memory Place Form : Type 0} → (Form → List ℕ) → (Memory → List (Option Place) → Form)
    → State Machine Memory Place Form → List ℕ
named_by form_code form_of state = named_code form_code form_of state
