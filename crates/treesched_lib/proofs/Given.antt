-- The book file of an exploration, and the answer for one that is checked.
use Rattle.std.proofs.Common.{◌≡◌, ◌≢◌, ◌++◌, ◌⊎◌, ℕ, None, List, Result, codes, inl, inr, refl, sym}
use Rattle.std.specs.Prelude.{IfOk}
use Rattle.std.proofs.lemmas.Result.{IfOk-weaker}
use Rattle.sched_program.specs.Program.{Program}
use Rattle.tree_machine.specs.Rules.{Rules}
use Rattle.replay.specs.BookFile.Checks.{IsRefusedFor}
use Rattle.book.specs.Closed.{AreSound, IsClosed}
use Rattle.book.specs.Entries.{Contents}
use Rattle.replay.specs.Schedule.{StepMachine}
use Rattle.replay.specs.declared.file.fault.CheckFault.{CheckFault}
use Rattle.replay.specs.declared.file.fault.CheckFault.TheVariants as check_fault
use Rattle.book.proofs.BookFile.Writable.{all_sound}
use Rattle.reports.specs.Reading.{TellsClosed, TellsFirst}
use Rattle.reports.specs.declared.answer.Answer.{Answer}
use Rattle.reports.specs.declared.answer.Answer.TheVariants as answer
use Rattle.treesched_lib.specs.Lines.{IsRefusal, check_fault_text}
use Rattle.treesched_lib.specs.Serving.{IsChecked}
use Rattle.treesched_lib.specs.declared.serving.Output.{Output}

-- the book of an answer for every schedule is closed, and all its entries are sound
pub closed : {X S : Type 0} (m : StepMachine S) (book : Contents X S) (printed : Answer)
    → TellsFirst m book.entries printed
    → TellsClosed book printed
    → printed ≡ answer.Every → IsClosed book × AreSound book.entries
closed m book answer.Every first is e = (is, all_sound book.entries None (sym first) refl)
closed m book printed first is e = absurd (cc)

module _ (Machine Form : Type 0) {Memory Place : Type 0} (rules : Rules Memory Place) (program : Program)
    (bytes : List ℕ) where
  -- the output names the cause for which the bytes are refused
  pub refused : {E : Type 0} (f : CheckFault) → (f ≡ check_fault.OutOfMemory)
      ⊎ IsRefusedFor Machine Form rules program bytes f → (r : Result Output E)
      → IfOk r
      (λ output. (f ≢ check_fault.OutOfMemory) × IsRefusal 3 (codes "book refused: " ++ check_fault_text f) output)
      → IfOk r (IsChecked Machine Form rules program bytes)
  refused f (inl e) r printed = IfOk-weaker r _ _ (λ output h. absurd (h.0 e)) printed
  refused f (inr is) r printed = IfOk-weaker r _ _ (λ output h. inr (f, is, h.0, h.1)) printed
