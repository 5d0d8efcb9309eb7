-- Alike states, which differ in nothing but the numbers of nodes, of records and of steps taken, and in what neither
-- the root nor a thread reaches; and the forms of states.
use Rattle.std.specs.Prelude.{◌≡◌, Bool, ℕ, List, map, Option}
use Rattle.tree_machine.specs.Pairing.{AreAlike}
use Rattle.tree_machine.specs.Rules.{Rules}
use Rattle.tree_machine.specs.declared.state.Thread.{Thread}
use Rattle.tree_machine.specs.declared.state.State.{State}

-- the content of the form of a state: the machine's form of the memory and of what the threads hold, what the threads
-- did, and who went astray
pub record FormContent (Form : Type 0) : Type 0 where
  pub form : Form
  pub replies : List (List Bool)
  pub notes : List (List (List ℕ))
  pub astray : Option ℕ

module _ {Place : Type 0} where
  -- what each thread holds: its place, or none between operations
  abbrev pub places_of : List (Thread Place) → List (Option Place)
  places_of threads = map (λ thread. thread.place) threads

  -- each thread's replies so far
  abbrev pub replies_of : List (Thread Place) → List (List Bool)
  replies_of threads = map (λ thread. thread.replies) threads

  -- the notes of the operations that each thread began
  abbrev pub notes_of : List (Thread Place) → List (List (List ℕ))
  notes_of threads = map (λ thread. thread.notes) threads

module _ {Machine Memory Place Form : Type 0} where
  -- some pairing pairs the memories and what the threads hold, the threads did the same, and both are astray by the
  -- same thread or neither is
  pub record AreStatesAlike (rules : Rules Memory Place) (state twin : State Machine Memory Place Form) : Type 0 where
    pub paired : AreAlike rules.pairs state.memory (places_of state.threads) twin.memory (places_of twin.threads)
    pub replies : replies_of state.threads ≡ replies_of twin.threads
    pub notes : notes_of state.threads ≡ notes_of twin.threads
    pub astray : state.astray ≡ twin.astray

  -- the content of the form of this state
  abbrev pub state_form : (Memory → List (Option Place) → Form) → State Machine Memory Place Form → FormContent Form
  state_form form_of state =
      record {
        form = form_of state.memory (places_of state.threads);
        replies = replies_of state.threads;
        notes = notes_of state.threads;
        astray = state.astray;
      }
