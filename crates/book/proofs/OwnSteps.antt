-- Steps of an entry's own state, as they are entered.
use Rattle.std.proofs.Common.{◌≡◌, ℕ, ◌⊎◌, inl, inr, Option, Result, Ok, Err, IfOk, IfErr, List, map, refl, subst}
use Rattle.std.proofs.lemmas.List.Folds.{map_fixed}
use Rattle.std.proofs.lemmas.Option.{get_or_from_slice_get}
use Rattle.tree_machine.proofs.Lists.{get_at}
use Rattle.tree_machine.specs.Rules.{Rules}
use Rattle.tree_machine.specs.Step.{Fits}
use Rattle.tree_machine.specs.declared.state.State.{State}
use Rattle.book.specs.declared.book.Entered.{Entered}
use Rattle.book.specs.declared.book.EnterFault.{EnterFault}
use Rattle.book.specs.declared.book.EnterFault.TheVariants.{Full, OutOfMemory}
use Rattle.book.specs.Books.{machine_in, right_in, CountsAsOne, HoldsSteps}
use Rattle.book.specs.ByLabel.{expansion_of, AreStepsOf, ExpandedView, IsEntryOf, IsExpandedOf, RefusesEntry}
use Rattle.book.specs.Entries.{At, Contents, Enters, Entry, IsFullFor, IsOwn, IsTaken, Refuses, Steps, Successor}
use Rattle.book.specs.Labels.{label_by, labelled, steps_of}
use Rattle.book.specs.Law.{IsExpansion}
use Rattle.book.proofs.Lists.{map-map}

-- a refusal for memory, or for room that the steps need, is one of what the steps are of
refused_by : {Needs : Type 0} (Refused : EnterFault → Type 0) (answer : Result Entered EnterFault)
    → IfErr answer (λ fault. (fault ≡ OutOfMemory) ⊎ ((fault ≡ Full) × Needs)) → Refused OutOfMemory
    → (Needs → Refused Full) → IfErr answer Refused
refused_by Refused (Ok r) h memory full = tt
refused_by Refused (Err fault) (inl is) memory full = rw is memory
refused_by Refused (Err fault) (inr h) memory full = rw h.0 (full h.1)

module _ {Machine Memory Place Form : Type 0} (rules : Machine → Rules Memory Place)
    (own_code : Memory → List (Option Place) → List ℕ) (form_code : Form → List ℕ)
    (form_of : Machine → Memory → List (Option Place) → Form)
    (b : Contents Machine (State Machine Memory Place Form)) (i : ℕ)
    (e : Entry (State Machine Memory Place Form)) (at : At b.entries i e) where
  abbrev label_here : State Machine Memory Place Form → List ℕ
  label_here = label_by own_code form_code (form_of b.machine) b.merge

  -- the steps of an entry in the book that have these labels
  abbrev put_by : List (Successor (List ℕ)) → Entry (State Machine Memory Place Form)
      → Steps Machine (State Machine Memory Place Form)
  put_by steps d = record {
    machine = b.machine;
    program = b.program;
    source = d.state;
    successors = steps_of (machine_in rules b).step d.state steps;
  }

  abbrev EntersHere : Contents Machine (State Machine Memory Place Form) → ℕ
      → Steps Machine (State Machine Memory Place Form) → Entered → Type 0
  EntersHere new id x r = Enters (CountsAsOne (rules b.machine) b.merge) b new id x r.entered r.met

  -- what putting the steps in says of an answer
  abbrev PutIn : List (Successor (List ℕ)) → Contents Machine (State Machine Memory Place Form)
      → Result Entered EnterFault → Type 0
  PutIn steps new answer = IfOk answer (λ r. (d : Entry (State Machine Memory Place Form)) → At b.entries i d
      → EntersHere new i (put_by steps d) r)

  abbrev NotPutIn : List (Successor (List ℕ)) → Result Entered EnterFault → Type 0
  NotPutIn steps answer = IfErr answer (λ fault. (fault ≡ OutOfMemory)
      ⊎ ((fault ≡ Full) × ((d : Entry (State Machine Memory Place Form)) → At b.entries i d
      → IsFullFor (CountsAsOne (rules b.machine) b.merge) b (put_by steps d).successors)))

  -- an expansion of the entry's state, labelled for the book
  module _ (x : Steps Machine (State Machine Memory Place Form)) (own : IsOwn b i x.machine x.program x.source)
      (holds : HoldsSteps rules x) (steps : List (Successor (List ℕ)))
      (are : steps ≡ map (labelled (label_by own_code form_code (form_of x.machine) b.merge)) x.successors) where
    expansion_here : IsExpansion (machine_in rules b) (right_in rules b) e.state x.successors
    expansion_here = rw (← own.machine, ← own.program, ← own.source e at) holds

    labelled_here : steps ≡ map (labelled label_here) x.successors
    labelled_here = rw (← own.machine) are

    -- the steps that are labelled are its steps
    own_successors : steps_of (machine_in rules b).step e.state steps ≡ x.successors
    own_successors =
        rw (labelled_here, map-map) (map_fixed _ x.successors (λ k d less.
        let one = get_at x.successors k less in
        rw (get_or_from_slice_get x.successors k one.0 d one.1, expansion_here.steps k one.0 one.1) refl))

    pub own_steps : AreStepsOf (machine_in rules b) (right_in rules b) label_here e.state steps
    own_steps = record { expansion = rw own_successors expansion_here; labels = rw own_successors labelled_here }

    -- what putting them in answers is what entering the expansion does
    pub entered_own : (new : Contents Machine (State Machine Memory Place Form)) (answer : Result Entered EnterFault)
        → PutIn steps new answer → IfOk answer (EntersHere new i x)
    entered_own new (Err fault) h = tt
    entered_own new (Ok r) h =
        let is : put_by steps e ≡ x = rw (own_successors, ← own.machine, ← own.program, ← own.source e at) refl in
        subst (λ y. EntersHere new i y r) is (h e at)

    pub refused_own : IsTaken b.entries i → (answer : Result Entered EnterFault) → NotPutIn steps answer
        → IfErr answer (Refuses (CountsAsOne (rules b.machine) b.merge) b i x)
    refused_own taken answer h =
        refused_by (Refuses (CountsAsOne (rules b.machine) b.merge) b i x) answer h (taken, λ _. own)
        (λ full. (taken, own, rw own_successors at (full e at)))

  -- labelled steps of the entry
  module _ (x : ExpandedView Machine) (key : IsEntryOf label_here b x.key)
      (expanded : IsExpandedOf rules own_code form_code form_of x) (fits : Fits (rules b.machine) b.program e.state)
      (number : x.key.id ≡ i) where
    pub keyed_steps : AreStepsOf (machine_in rules b) (right_in rules b) label_here e.state x.steps
    keyed_steps =
        rw (← key.merge, ← key.program, ← key.machine)
        (expanded e.state (rw (key.machine, key.program) fits)
        (rw (key.machine, key.merge) (key.label e (rw number at))))

    same_expansion : (d : Entry (State Machine Memory Place Form)) → put_by x.steps d ≡ expansion_of rules x d.state
    same_expansion d = rw (key.machine, key.program) refl

    -- what putting them in answers is what entering them does
    pub entered_keyed : (new : Contents Machine (State Machine Memory Place Form)) (answer : Result Entered EnterFault)
        → PutIn x.steps new answer
        → IfOk answer (λ r. (d : Entry (State Machine Memory Place Form)) × At b.entries x.key.id d
        × EntersHere new x.key.id (expansion_of rules x d.state) r)
    entered_keyed new (Err fault) h = tt
    entered_keyed new (Ok r) h =
        (e, rw number at, rw number (subst (λ y. EntersHere new i y r) (same_expansion e) (h e at)))

    pub refused_keyed : IsTaken b.entries x.key.id → (answer : Result Entered EnterFault) → NotPutIn x.steps answer
        → IfErr answer (RefusesEntry rules own_code form_code form_of b x)
    refused_keyed taken answer h =
        refused_by (RefusesEntry rules own_code form_code form_of b x) answer h (taken, key) (λ full. (
          taken,
          key,
          λ d there. subst (λ y. IsFullFor (CountsAsOne (rules b.machine) b.merge) b y.successors) (same_expansion d)
              (full d (rw number at there)),
        ))
