-- What lines, and the bytes of a book file, are refused for: one thing at most, and nothing where they pass.
use Rattle.std.proofs.Common.{◌≡◌, ℕ, inl, inr, List, [], ◌∷◌, ◌++◌, sym, ◌∙◌, ap}
use Rattle.std.proofs.lemmas.Bool.{cases_order}
use Rattle.std.proofs.lemmas.Option.{slice_get_past}
use Rattle.sched_program.specs.Program.{Program}
use Rattle.sched_program.specs.declared.operation.OpId.{OpId}
use Rattle.tree_machine.specs.Rules.{Rules}
use Rattle.tree_machine.specs.Step.{start}
use Rattle.tree_machine.specs.declared.state.State.{State}
use Rattle.replay.specs.declared.file.line.BookLine.{BookLine}
use Rattle.replay.specs.declared.file.fault.CheckFault.{CheckFault}
use Rattle.replay.specs.declared.file.fault.CheckFault.TheVariants.{Form}
use Rattle.replay.specs.BookFile.Replays.{IsShown, IsUnshown, Reaches, Tells, IsAmiss, Continues, FirstAmiss}
use Rattle.replay.specs.BookFile.Replays.{AreReplayed, IsFirstAmiss}
use Rattle.replay.specs.BookFile.Closing.{IsFirstOpen}
use Rattle.replay.specs.BookFile.Checks.{Pass, AreRefused, PassAs, IsRefusedFor}
use Rattle.replay.proofs.Either.{AtMostOne, one_of_either}
use Rattle.replay.proofs.Text.OneReading.{same_book, not_both, same_misformed}

module _ {Machine Memory Place Form : Type 0} (rules : Rules Memory Place) (program : Program) where
  -- a state that an order shows has nothing unshown
  shown_not_unshown : (s : State Machine Memory Place Form) (order : List OpId) (n : ℕ) (f : CheckFault)
      → IsShown rules program s order → IsUnshown rules program s order n f → ⊥
  shown_not_unshown s order n f shown (inl a) = a.1 shown.0
  shown_not_unshown s order n f shown (inr a) = a.2 shown.1

  one_unshown : (s : State Machine Memory Place Form) (order : List OpId) (n : ℕ)
      → AtMostOne (IsUnshown rules program s order n)
  one_unshown s order n =
      one_of_either (λ f g a b. a.0 ∙ sym b.0) (λ f g a b. a.0 ∙ sym b.0) (λ f g a b. a.1 b.1)

  module _ (before : List (State Machine Memory Place Form)) (line : BookLine) where
    -- the line reaches one state at most
    one_reached : (r s : State Machine Memory Place Form) → Reaches rules program before line r
        → Reaches rules program before line s → r ≡ s
    one_reached r s a b = cc

    passing_not_amiss : (s : State Machine Memory Place Form) (f : CheckFault) → Tells rules program before line s
        → IsAmiss rules program before line f → ⊥
    passing_not_amiss s f tells (inl a) = cc (slice_get_past before line.parent a.1, tells.0.at)
    passing_not_amiss s f tells (inr (inl a)) = cc (a.1.1, a.1.2, tells.0.at, tells.0.step)
    passing_not_amiss s f tells (inr (inr a)) =
        shown_not_unshown a.0 _ _ f (rw (one_reached a.0 s a.1 tells.0) tells.1) a.2

    one_amiss : AtMostOne (IsAmiss rules program before line)
    one_amiss =
        one_of_either (λ f g a b. a.0 ∙ sym b.0)
        (one_of_either (λ f g a b. a.0 ∙ sym b.0)
        (λ f g a b. one_unshown a.0 _ _ f g a.2 (rw (one_reached a.0 b.0 a.1 b.1) b.2))
        (λ f g stuck reached. cc (stuck.1.1, stuck.1.2, reached.1.at, reached.1.step)))
        (λ f g missing other.
        let none = slice_get_past before line.parent missing.1 in
        elim other [ inl stuck ↦ cc (none, stuck.1.1) | inr reached ↦ cc (none, reached.1.at) ])

  -- lines go on to one list of states, and nothing is amiss with them then
  one_continued : (before : List (State Machine Memory Place Form)) (lines : List BookLine)
      (states others : List (State Machine Memory Place Form))
      → Continues rules program before lines states → Continues rules program before lines others → states ≡ others
  one_continued before [] states others a b = a ∙ sym b
  one_continued before (line ∷ lines) states others a b =
      one_continued (before ++ a.0 ∷ []) lines states others a.2 (rw (one_reached before line a.0 b.0 a.1.0 b.1.0) b.2)

  continued_not_amiss : (before : List (State Machine Memory Place Form)) (lines : List BookLine)
      (states : List (State Machine Memory Place Form)) (f : CheckFault)
      → Continues rules program before lines states → FirstAmiss rules program before lines f → ⊥
  continued_not_amiss before [] states f so amiss = amiss
  continued_not_amiss before (line ∷ lines) states f so (inl h) = passing_not_amiss before line so.0 f so.1 h
  continued_not_amiss before (line ∷ lines) states f so (inr h) =
      continued_not_amiss (before ++ so.0 ∷ []) lines states f so.2
      (rw (one_reached before line so.0 h.0 so.1.0 h.1.0) h.2)

  one_first : (before : List (State Machine Memory Place Form)) (lines : List BookLine)
      → AtMostOne (FirstAmiss rules program before lines)
  one_first before [] = λ f g a b. absurd a
  one_first before (line ∷ lines) =
      one_of_either (one_amiss before line)
      (λ f g a b. one_first (before ++ a.0 ∷ []) lines f g a.2 (rw (one_reached before line a.0 b.0 a.1.0 b.1.0) b.2))
      (λ f g a b. passing_not_amiss before line b.0 f b.1 a)

  one_open : (states : List (State Machine Memory Place Form)) → AtMostOne (IsFirstOpen rules program states)
  one_open states f g a b =
      elim (cases_order a.index b.index) [
        | inl same ↦ cc
        | inr (inl less) ↦ absurd (b.first a.index a.state less a.at a.leads_out)
        | inr (inr more) ↦ absurd (a.first b.index b.state more b.at b.leads_out)
      ]

module _ (Machine Form : Type 0) {Memory Place : Type 0} (rules : Rules Memory Place) (program : Program)
    (lines : List BookLine) where
  abbrev first : State Machine Memory Place Form
  first = start rules program

  -- lines describe one list of states
  pub one_replayed : (states others : List (State Machine Memory Place Form)) → AreReplayed rules program lines states
      → AreReplayed rules program lines others → states ≡ others
  one_replayed states others a b = one_continued rules program (first ∷ []) lines states others a.1 b.1

  one_first_amiss : AtMostOne (IsFirstAmiss Machine Form rules program lines)
  one_first_amiss =
      one_of_either (one_unshown rules program first [] 2)
      (λ f g a b. one_first rules program (first ∷ []) lines f g a.1 b.1)
      (λ f g a b. shown_not_unshown rules program first [] 2 f b.0 a)

  replayed_not_amiss : (states : List (State Machine Memory Place Form)) (f : CheckFault)
      → AreReplayed rules program lines states → IsFirstAmiss Machine Form rules program lines f → ⊥
  replayed_not_amiss states f so (inl a) = shown_not_unshown rules program first [] 2 f so.0 a
  replayed_not_amiss states f so (inr a) = continued_not_amiss rules program (first ∷ []) lines states f so.1 a.1

  -- lines are refused for one thing at most
  pub one_refusal : AtMostOne (AreRefused Machine Form rules program lines)
  one_refusal =
      one_of_either one_first_amiss
      (λ f g a b. one_open rules program a.0 f g a.2 (rw (one_replayed a.0 b.0 a.1 b.1) b.2))
      (λ f g a b. replayed_not_amiss b.0 f b.1 a)

  -- and for nothing where they pass
  pub pass_not_refused : (f : CheckFault) → Pass Machine Form rules program lines
      → AreRefused Machine Form rules program lines f → ⊥
  pass_not_refused f pass (inl a) = replayed_not_amiss pass.0 f pass.1 a
  pass_not_refused f pass (inr a) =
      let is : IsFirstOpen rules program pass.0 f = rw (one_replayed pass.0 a.0 pass.1 a.1) a.2 in
      let out = is.leads_out in
      out.3 (pass.2.steps is.index out.0 is.state out.1 is.at out.2)

-- the bytes of a book file
module _ (Machine MachineForm : Type 0) {Memory Place : Type 0} (rules : Rules Memory Place) (program : Program)
    (bytes : List ℕ) where
  -- for one thing at most
  pub one_refusal_of_bytes : AtMostOne (IsRefusedFor Machine MachineForm rules program bytes)
  one_refusal_of_bytes =
      one_of_either (λ f g a b. a.1 ∙ ap Form (same_misformed bytes a.0 b.0 a.2 b.2) ∙ sym b.1)
      (λ f g a b. one_refusal Machine MachineForm rules program a.0 f g a.2
      (rw (same_book bytes a.0 b.0 a.1 b.1) b.2))
      (λ f g a b. not_both bytes b.0 a.0 b.1 a.2)

  -- and for nothing where they pass
  pub passing_bytes : (entries : ℕ) (f : CheckFault) → PassAs Machine MachineForm rules program bytes entries
      → IsRefusedFor Machine MachineForm rules program bytes f → ⊥
  passing_bytes entries f pass (inl a) = not_both bytes pass.0 a.0 pass.1 a.2
  passing_bytes entries f pass (inr a) =
      pass_not_refused Machine MachineForm rules program pass.0 f pass.2
      (rw (same_book bytes pass.0 a.0 pass.1 a.1) a.2)
