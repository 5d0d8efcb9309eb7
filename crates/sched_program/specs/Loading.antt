-- What a reader gave, and the answer for it.
use Rattle.std.specs.Prelude.{◌≡◌, ◌⊎◌, ℕ, List, Option, Result, Ok, Err}
use Rattle.std.specs.Io.KnownBytes.{Consumes, IsAtEnd}
use Rattle.sched_program.specs.Faults.{IsFirstFaultOf}
use Rattle.sched_program.specs.Program.{Program}
use Rattle.sched_program.specs.Text.{IsJsonTextOf}
use Rattle.sched_program.specs.declared.counted.ReadFault.{ReadFault}
use Rattle.sched_program.specs.declared.counted.ReadFault.TheVariants as read
use Rattle.sched_program.specs.declared.fault.ProgramFault.TheVariants as fault
use Rattle.sched_program.specs.declared.loading.LoadFault.{LoadFault}
use Rattle.sched_program.specs.declared.loading.LoadFault.TheVariants as load

-- how many reads of the call failed
abbrev pub failed_reads : {T : Type 0} → Result T ReadFault → ℕ
failed_reads (Err read.Device) = 1
failed_reads _ = 0

abbrev pub load_fault : ReadFault → LoadFault
load_fault read.Device = load.Device
load_fault read.OutOfMemory = load.Program fault.OutOfMemory

abbrev pub failed_loads : Result Program LoadFault → ℕ
failed_loads (Err load.Device) = 1
failed_loads _ = 0

-- the answer for a text: its only program, or its first fault
abbrev pub AnswersText : List ℕ → Result Program LoadFault → Type 0
AnswersText text (Ok program) =
    IsJsonTextOf text program × ((other : Program) → IsJsonTextOf text other → other ≡ program)
AnswersText text (Err (load.Program f)) = IsFirstFaultOf text f × ((program : Program) → ¬ IsJsonTextOf text program)
AnswersText text (Err load.Device) = ⊥

-- A read failed, or memory was refused, or the answer is for all the bytes up to the end, which are those that the
-- reader had where it says which.
abbrev pub AnswersAllRead : Option (List ℕ) → Option (List ℕ) → Result Program LoadFault → Type 0
AnswersAllRead old new (Err load.Device) = Unit {0}
AnswersAllRead old new answer = (answer ≡ Err (load.Program fault.OutOfMemory))
    ⊎ ((text : List ℕ) × Consumes old new text × IsAtEnd new × AnswersText text answer)
