-- Lines that pass show that every schedule reaches a correct state.
use Rattle.std.proofs.Common.{◌≡◌, ℕ, Option, Some, List, [], slice_get}
use Rattle.sched_program.specs.Program.{Program, IsWithinLimits}
use Rattle.tree_machine.specs.Rules.{Rules, AreLawful, AreFormsExact}
use Rattle.tree_machine.specs.Alike.{AreStatesAlike}
use Rattle.tree_machine.specs.Step.{start, step, Fits}
use Rattle.tree_machine.specs.declared.state.State.{State}
use Rattle.tree_machine.proofs.Alike.{alike_history}
use Rattle.tree_machine.proofs.Forms.{alike_through}
use Rattle.replay.specs.Findings.{machine_of}
use Rattle.replay.specs.Correct.{IsCorrect, HoldsAlways}
use Rattle.replay.specs.Laws.Schedules.{covered}
use Rattle.replay.specs.declared.file.line.BookLine.{BookLine}
use Rattle.replay.specs.BookFile.Replays.{IsShown, AreReplayed}
use Rattle.replay.specs.BookFile.Checks.{Pass}
use Rattle.replay.proofs.BookFile.Replayed.{holds_of_each, machine}
use Rattle.replay.proofs.BookFile.Twins.{step_there, turned, well_there}

module _ {Machine Memory Place Form : Type 0} (rules : Rules Memory Place) (program : Program) where
  -- a state that an order shows is correct
  shown_correct : (s : State Machine Memory Place Form) (order : List _) → IsShown rules program s order
      → IsCorrect rules program s
  shown_correct s order shown = (shown.0.0, shown.0.1, (order, shown.1))

  replayed_correct : (lines : List BookLine) (states : List (State Machine Memory Place Form))
      → AreReplayed rules program lines states → (i : ℕ) (s : State Machine Memory Place Form)
      → slice_get states i ≡ Some s → IsCorrect rules program s
  replayed_correct lines states so =
      holds_of_each rules program (λ i s. IsCorrect rules program s)
      (λ before line state all tells. shown_correct state line.order tells.1)
      (shown_correct (start rules program) [] so.0) lines states so

module _ {Machine Memory Place Form : Type 0} {rules : Rules Memory Place} {program : Program}
    (lawful : AreLawful rules) (limits : IsWithinLimits program) {form_of : Memory → List (Option Place) → Form}
    (forms : AreFormsExact rules form_of) where
  twins_step : (r s u : State Machine Memory Place Form) (t : ℕ) → Fits rules program r → Fits rules program s
      → AreStatesAlike rules r s → step rules program s t ≡ Some u
      → (v : State Machine Memory Place Form) × (step rules program r t ≡ Some v) × AreStatesAlike rules v u
  twins_step r s u t r_fits s_fits twins leads =
      let v = step_there lawful forms r_fits s_fits twins t u leads in
      (v.0, v.1, turned lawful forms v.3 v.2 v.4)

  pub passing_holds : (lines : List BookLine) → Pass Machine Form rules program lines
      → HoldsAlways Machine Form rules program
  passing_holds lines pass schedule state leads =
      let w = covered (machine_of rules program) (machine lawful limits) (AreStatesAlike rules)
      (λ r s u r_fits s_fits u_fits. alike_through rules form_of forms program r s r_fits s_fits u u_fits) twins_step
      pass.0 pass.2 schedule state leads in
      let correct = replayed_correct rules program lines pass.0 pass.1 w.0 w.1 w.2 in
      let well = well_there lawful program w.3 (correct.0, correct.1) in
      (well.0, well.1, (correct.2.0, rw (← alike_history rules w.1 state w.3) correct.2.1))
