use Rattle.std.proofs.Common.{◌≢◌, List, ℕ, Option, Err, inl, inr, refl}
use Rattle.std.specs.Io.KnownBytes.{Consumes, IsAtEnd}
use Rattle.sched_program.specs.Faults.{IsFirstFaultOf}
use Rattle.sched_program.specs.Loading.{AnswersAllRead}
use Rattle.sched_program.specs.Program.{Program}
use Rattle.sched_program.specs.Text.{IsJsonTextOf}
use Rattle.sched_program.specs.declared.fault.ProgramFault.{ProgramFault}
use Rattle.sched_program.specs.declared.fault.ProgramFault.TheVariants as fault
use Rattle.sched_program.specs.declared.loading.LoadFault.TheVariants as load
use Rattle.sched_program.proofs.program.Program.from_reader.Goals as goal

-- a fault of the bytes that were read to the end
stated : (old new : Option (List ℕ)) (text : List ℕ) (f : ProgramFault) → Consumes old new text → IsAtEnd new
    → IsFirstFaultOf text f → (f ≢ fault.OutOfMemory → (program : Program) → ¬ IsJsonTextOf text program)
    → AnswersAllRead old new (Err (load.Program f))
stated old new text fault.OutOfMemory all end first none = inl refl
stated old new text f all end first none = inr (text, all, end, (first, none (λ e. cc)))

pub returns-clause-read : goal.returns-clause-read
returns-clause-read g c =
    stated (g.R.Read.remaining c.args.reader.now.reader) (g.R.Read.remaining c.read_all.new.self.reader)
    c.as_slice.result.now c.in-Err.fault (rw c.as_slice.ensures.value c.in_ok-text.ensures.bytes)
    c.in_ok-text.ensures.end c.in-Err.ensures.fault c.in-Err.ensures.refused
