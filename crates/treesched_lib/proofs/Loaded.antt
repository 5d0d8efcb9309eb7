-- The answer for what the readers gave.
use Rattle.std.proofs.Common.{◌≡◌, ◌∙◌, ◌+◌, ◌++◌, ℕ, List, Option, Some, None, Result, Ok, Err, arith, inl, inr, refl}
use Rattle.std.proofs.Common.{sym, ap, append-nil}
use Rattle.std.specs.Prelude.{IfOk, IfSome}
use Rattle.std.specs.Io.KnownBytes.{Consumes, IsAtEnd}
use Rattle.std.proofs.lemmas.Result.{IfOk-weaker}
use Rattle.sched_program.specs.Loading.{AnswersAllRead, failed_loads}
use Rattle.sched_program.specs.Program.{Program}
use Rattle.sched_program.specs.declared.counted.Counted.{Counted}
use Rattle.sched_program.specs.declared.fault.ProgramFault.TheVariants as fault
use Rattle.sched_program.specs.declared.loading.LoadFault.{LoadFault}
use Rattle.sched_program.specs.declared.loading.LoadFault.TheVariants as load
use Rattle.treesched_lib.specs.Serving.{IsAnsweredBy, IsAsked, IsServedFrom, TellsUnloaded}
use Rattle.words.specs.declared.request.Request.{Request}
use Rattle.treesched_lib.specs.declared.serving.BookRead.{BookRead}
use Rattle.treesched_lib.specs.declared.serving.BookRead.TheVariants as book_read
use Rattle.treesched_lib.specs.declared.serving.Output.{Output}

-- what was read up to the end is all that the reader had, where it says what that is
all_read : (old new : Option (List ℕ)) (text : List ℕ) → Consumes old new text → IsAtEnd new
    → IfSome old (λ all. text ≡ all)
all_read None new text read end = tt
all_read (Some xs) None text read end = absurd read
all_read (Some xs) (Some ys) text read end = sym (read ∙ ap (λ zs. text ++ zs) end ∙ append-nil text)

module _ {F E : Type 0} (remaining : F → Option (List ℕ)) (before after : Counted F) (Came : BookRead → Type 0)
    (asked : Request) (r : Result Output E) where
  -- a program was read, and then the book file where it is asked for
  pub loaded : (program : Program) → AnswersAllRead (remaining before.reader) (remaining after.reader) (Ok program)
      → after.failures ≡ before.failures + failed_loads (Ok program) → (book : BookRead) → Came book
      → IsAsked asked book
      → IfOk r (IsAnsweredBy program.tree program book asked) → IfOk r (IsServedFrom remaining before after Came asked)
  loaded program (inl e) count book came due answered = absurd (cc)
  loaded program (inr (text, read, end, printed)) count book came due answered =
      let same : after.failures ≡ before.failures = omega arith in
      IfOk-weaker r _ _ (λ output h. (
        Some text,
        book,
        (same, all_read (remaining before.reader) (remaining after.reader) text read end),
        came,
        inl (program, printed.0, due, h),
      )) answered

  -- no program was read, and no book file is then
  pub unloaded : (f : LoadFault) → AnswersAllRead (remaining before.reader) (remaining after.reader) (Err f)
      → after.failures ≡ before.failures + failed_loads (Err f) → Came book_read.NotAsked
      → IfOk r (TellsUnloaded asked f) → IfOk r (IsServedFrom remaining before after Came asked)
  unloaded load.Device read count came printed =
      IfOk-weaker r _ _ (λ output h. (None, book_read.NotAsked, count, came, (refl, h))) printed
  unloaded (load.Program f) (inl e) count came printed =
      IfOk-weaker r _ _ (λ output h. let q : f ≡ fault.OutOfMemory = cc in absurd (h.0 q)) printed
  unloaded (load.Program f) (inr (text, read, end, answer)) count came printed =
      let same : after.failures ≡ before.failures = omega arith in
      IfOk-weaker r _ _ (λ output h. (
        Some text,
        book_read.NotAsked,
        (same, all_read (remaining before.reader) (remaining after.reader) text read end),
        came,
        inr (f, answer.0, h.0, refl, h.1),
      )) printed
