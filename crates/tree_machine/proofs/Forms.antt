-- The forms of states whose numbers are in range are equal exactly if the states are alike.
use Rattle.std.proofs.Common.{◌≡◌, ◌↔◌, List, length, Option, IfSome, refl, sym, ap, ◌∙◌}
use Rattle.std.proofs.lemmas.List.{length-map}
use Rattle.std.proofs.lemmas.List.Elements.{All-map}
use Rattle.std.proofs.lemmas.Option.{slice_get-get_or}
use Rattle.sched_program.specs.Program.{Program}
use Rattle.tree_machine.specs.Alike.{places_of, replies_of, state_form, AreStatesAlike}
use Rattle.tree_machine.specs.InRange.{AreNumbersInRange}
use Rattle.tree_machine.specs.Rules.{Rules, ArePlacesInRange, AreFormsExact}
use Rattle.tree_machine.specs.Step.{Fits}
use Rattle.tree_machine.specs.declared.state.State.{State}
use Rattle.tree_machine.proofs.Runs.{with_ops}

module _ {Machine Memory Place Form : Type 0} (rules : Rules Memory Place) where
  -- the places that the threads of a state hold are in range
  pub held_in_range : (program : Program) (state : State Machine Memory Place Form) → Fits rules program state
      → ArePlacesInRange rules state.memory (places_of state.threads)
  held_in_range program state fits =
      All-map (λ place. IfSome place (rules.IsPlaceInRange state.memory)) (λ thread. thread.place) state.threads
      (λ t d within. (with_ops rules program state fits t _ (slice_get-get_or state.threads t d within)).2.place)

  -- the numbers of a state that fits a program are in range
  pub numbers_fit : (program : Program) (state : State Machine Memory Place Form) → Fits rules program state
      → AreNumbersInRange rules state
  numbers_fit program state fits = record { memory = fits.memory; places = held_in_range program state fits }

  module _ (form_of : Memory → List (Option Place) → Form) (exact : AreFormsExact rules form_of) where
    pub forms_tell : (state twin : State Machine Memory Place Form) → AreNumbersInRange rules state
        → AreNumbersInRange rules twin
        → (state_form form_of state ≡ state_form form_of twin) ↔ AreStatesAlike rules state twin
    forms_tell state twin numbers twin_numbers =
        let law =
        exact state.memory twin.memory (places_of state.threads) (places_of twin.threads) numbers.memory
        numbers.places twin_numbers.memory twin_numbers.places in
        let same_length : replies_of state.threads ≡ replies_of twin.threads
        → length (places_of state.threads) ≡ length (places_of twin.threads) =
        λ h. simp length-map (simp length-map at (ap length h)) in (
          (λ same. record {
            paired = (law (same_length (ap (λ form. form.replies) same))).0 (ap (λ form. form.form) same);
            replies = ap (λ form. form.replies) same;
            notes = ap (λ form. form.notes) same;
            astray = ap (λ form. form.astray) same;
          }),
          (λ alike.
              rw ((law (same_length alike.replies)).1 alike.paired, alike.replies, alike.notes, alike.astray) refl),
        )

    pub forms_alike : (here there : Program) (state twin : State Machine Memory Place Form) → Fits rules here state
        → Fits rules there twin
        → (state_form form_of state ≡ state_form form_of twin) ↔ AreStatesAlike rules state twin
    forms_alike here there state twin fits twin_fits =
        forms_tell state twin (numbers_fit here state fits) (numbers_fit there twin twin_fits)

    -- a state is alike to itself, and alikeness goes both ways and from state to state
    pub alike_itself : (program : Program) (state : State Machine Memory Place Form) → Fits rules program state
        → AreStatesAlike rules state state
    alike_itself program state fits = (forms_alike program program state state fits fits).0 refl

    module _ (program : Program) (state twin : State Machine Memory Place Form) (fits : Fits rules program state)
        (twin_fits : Fits rules program twin) where
      pub alike_turned : AreStatesAlike rules state twin → AreStatesAlike rules twin state
      alike_turned alike = (forms_alike program program twin state twin_fits fits).0
          (sym ((forms_alike program program state twin fits twin_fits).1 alike))

      pub alike_through : (third : State Machine Memory Place Form) → Fits rules program third
          → AreStatesAlike rules state twin → AreStatesAlike rules twin third → AreStatesAlike rules state third
      alike_through third third_fits first second =
          (forms_alike program program state third fits third_fits).0
          ((forms_alike program program state twin fits twin_fits).1 first
          ∙ (forms_alike program program twin third twin_fits third_fits).1 second)
