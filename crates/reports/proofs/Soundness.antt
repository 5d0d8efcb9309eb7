-- Faults among entries, and what findings say of states.
use Rattle.std.proofs.Common.{◌≡◌, ◌≢◌, ℕ, ◌<◌, true, false, not, Some, None, List, is_some, refl, sym, ap, ◌∙◌}
use Rattle.std.proofs.Common.{Option, slice_get}
use Rattle.std.specs.Option.{option_map}
use Rattle.std.proofs.lemmas.Bool.{true≢false, not-false, not-true}
use Rattle.sched_program.specs.Program.{Program}
use Rattle.tree_machine.specs.Rules.{Rules}
use Rattle.tree_machine.specs.declared.state.State.{State}
use Rattle.replay.specs.declared.finding.Finding.{Finding}
use Rattle.replay.specs.declared.finding.Finding.TheVariants.{Astray, Order, History, Sound}
use Rattle.replay.specs.Correct.{IsCorrect}
use Rattle.replay.specs.Findings.{is_sound, IsFindingOf, IsSound}
use Rattle.book.specs.declared.entry.Mark.{Mark}
use Rattle.book.specs.declared.entry.Mark.TheVariants.{Open, Taken, Expanded}
use Rattle.book.specs.Entries.{Entry, At}
use Rattle.book.proofs.Next.{first_passes, none_passes}
use Rattle.reports.specs.Reading.{first_fault}

-- a mark is that of an expanded entry unless it can be shown not to be
pub expanded_unless : (k : Mark) → (k ≢ Expanded → ⊥) → k ≡ Expanded
expanded_unless Open not = absurd (not (λ e. cc))
expanded_unless Taken not = absurd (not (λ e. cc))
expanded_unless Expanded not = refl

module _ {S : Type 0} (es : List (Entry S)) where
  -- no entry is a fault
  pub none_unsound : first_fault es ≡ None → (i : ℕ) (e : Entry S) → At es i e → is_sound e.finding ≡ true
  none_unsound none i e at =
      not-false (is_sound e.finding) (none_passes (λ (r : Entry S). not (is_sound r.finding)) es none i e at)

  -- the first fault is one, and none before it is
  pub first_unsound : (i : ℕ) → first_fault es ≡ Some i → (e : Entry S) × At es i e × (is_sound e.finding ≡ false)
      × ((j : ℕ) (d : Entry S) → j < i → At es j d → is_sound d.finding ≡ true)
  first_unsound i first =
      let f = first_passes (λ (r : Entry S). not (is_sound r.finding)) es i first in (
        f.0,
        f.1,
        not-true (is_sound f.0.finding) f.2,
        λ j d less at. not-false (is_sound d.finding) (f.3 j d less at),
      )

  -- what was found of it
  pub found_at : (i : ℕ) (o : Option Finding) → first_fault es ≡ Some i
      → o ≡ option_map (λ (e : Entry S). e.finding) (slice_get es i)
      → (e : Entry S) × At es i e × (o ≡ Some e.finding)
  found_at i o first is =
      let f = first_unsound i first in (f.0, f.1, is ∙ ap (option_map (λ (e : Entry S). e.finding)) f.1)

module _ {Machine Memory Place Form : Type 0} (rules : Rules Memory Place) (program : Program) where
  -- a state that some right finding shows sound is correct
  pub sound_correct : (state : State Machine Memory Place Form) → IsSound (IsFindingOf rules program) state
      → IsCorrect rules program state
  sound_correct state (Sound order, h, sound) = (h.0, h.1, (order, h.2))
  sound_correct state (_, h, sound) = absurd (cc)

  -- and a correct state has no fault
  pub correct_no_fault : (state : State Machine Memory Place Form) (f : Finding) → IsCorrect rules program state
      → IsFindingOf rules program state f → is_sound f ≡ true
  correct_no_fault state Astray correct h = absurd (true≢false (sym h ∙ ap is_some correct.0))
  correct_no_fault state Order correct h = absurd (h.1 correct.1)
  correct_no_fault state History correct h = absurd (h.2 correct.2)
  correct_no_fault state (Sound order) correct h = refl
