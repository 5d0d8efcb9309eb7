-- What the program answers to a request.
use Rattle.std.specs.Prelude.{◌≡◌, ◌≢◌, ◌+◌, ◌++◌, ◌⊎◌, ℕ, Bool, true, false, List, [], Option, Some, None, IfSome}
use Rattle.std.specs.Prelude.{IsSome, IsSomeAnd, codes, is_some, length, slice_get, if◌then◌else◌}
use Rattle.std.specs.Global.{Vec}
use Rattle.std.specs.String.{string_bytes}
use Rattle.sched_program.specs.Faults.{IsFirstFaultOf}
use Rattle.sched_program.specs.Program.{Program}
use Rattle.sched_program.specs.Text.{IsJsonTextOf}
use Rattle.sched_program.specs.declared.fault.ProgramFault.{ProgramFault}
use Rattle.sched_program.specs.declared.fault.ProgramFault.TheVariants as program_fault
use Rattle.sched_program.specs.declared.loading.LoadFault.{LoadFault}
use Rattle.sched_program.specs.declared.loading.LoadFault.TheVariants as load
use Rattle.sched_program.specs.declared.operation.Tree.{Tree}
use Rattle.sched_program.specs.declared.operation.Tree.TheVariants as tree
use Rattle.ellen.specs.EllenRules.{ellen_rules}
use Rattle.ellen.specs.declared.machine.Ellen.{Ellen}
use Rattle.natmit.specs.NatMitRules.{natmit_rules}
use Rattle.natmit.specs.declared.machine.NatMit.{NatMit}
use Rattle.tree_machine.specs.Atomic.{atomic_rules}
use Rattle.tree_machine.specs.History.{history_of}
use Rattle.tree_machine.specs.Rules.{Rules}
use Rattle.tree_machine.specs.declared.atomic.Atomic.{Atomic}
use Rattle.tree_machine.specs.declared.atomic.AtomicForm.{AtomicForm}
use Rattle.tree_machine.specs.declared.state.State.{State}
use Rattle.book.specs.Books.{CountsAsOne, totals_of}
use Rattle.book.specs.Entries.{Contents, Entry}
use Rattle.replay.specs.Findings.{IsFindingOf, is_sound, machine_of}
use Rattle.replay.specs.Replay.{StopsAt}
use Rattle.replay.specs.Schedule.{after}
use Rattle.book.specs.Law.{IsLawfulBook}
use Rattle.replay.specs.BookFile.Checks.{IsRefusedFor, PassAs}
use Rattle.book.specs.BookFile.Written.{IsFileOf}
use Rattle.replay.specs.Correct.{HoldsAlways}
use Rattle.replay.specs.declared.file.fault.CheckFault.{CheckFault}
use Rattle.replay.specs.declared.file.fault.CheckFault.TheVariants as check_fault
use Rattle.replay.specs.declared.finding.Finding.{Finding}
use Rattle.replay.specs.declared.replayed.ReplayFault.TheVariants as replay_fault
use Rattle.reports.specs.Due.{IsDue}
use Rattle.reports.specs.Headline.{IsTrueOf}
use Rattle.reports.specs.Ledger.{ledger}
use Rattle.reports.specs.Reading.{TellsClosed, TellsFirst}
use Rattle.reports.specs.Reporting.{IsBookOf}
use Rattle.options.specs.Settings.{Settings}
use Rattle.reports.specs.declared.answer.Answer.{Answer}
use Rattle.reports.specs.declared.answer.Answer.TheVariants as answer
use Rattle.reports.specs.declared.answer.Share.{Share}
use Rattle.treesched_lib.specs.Lines.{IsPage, IsRefusal, IsUnreadable, IsUnwritable, TellsFault, check_fault_text}
use Rattle.treesched_lib.specs.Lines.{fault_text, no_step_text, operations_text, passed_text, report_text, status_of}
use Rattle.treesched_lib.specs.Lines.{verdict_text}
use Rattle.clap.specs.Walk.{Text}
use Rattle.words.specs.Reading.{AreRefused, AskFor, file_of, out_of}
use Rattle.sched_program.specs.declared.counted.Counted.{Counted}
use Rattle.words.specs.declared.request.Request.{Request}
use Rattle.words.specs.declared.request.Request.TheVariants as request
use Rattle.words.specs.declared.request.WordsFault.{WordsFault}
use Rattle.treesched_lib.specs.declared.serving.BookRead.{BookRead}
use Rattle.treesched_lib.specs.declared.serving.BookRead.TheVariants as book_read
use Rattle.treesched_lib.specs.declared.serving.Output.{Output}

module _ (Machine Form : Type 0) {Memory Place : Type 0} (rules : Rules Memory Place) (program : Program) where
  -- there is a book file where one is asked for and the answer is for every schedule: it is the file of the entries,
  -- which passes with their number
  abbrev pub IsBookDue : Bool → Answer → List (Entry (State Machine Memory Place Form)) → Option (Vec ℕ) → Type 0
  IsBookDue true answer.Every entries file = IsSomeAnd file
      (λ text. IsFileOf entries text.items × PassAs Machine Form rules program text.items (length entries))
  IsBookDue asked answer entries file = file ≡ None

  -- The output reports an answer for all schedules of the program, read off a lawful book of what is asked for. It is
  -- the answer that the bounds call for, with the book's number of entries as the number of states, and it is true. If
  -- asked, the output also reports the share of each worker, and the totals of the book, to which they sum. It has the
  -- book's file where there is one to write.
  pub record IsExplored (settings : Settings) (with_ledger asks_book : Bool) (output : Output) : Type 0 where
    pub book : Contents Machine (State Machine Memory Place Form)
    pub law : IsLawfulBook (machine_of rules program) (CountsAsOne rules settings.merge) (IsFindingOf rules program)
        book
    pub asked : IsBookOf book.machine program settings book
    pub answer : Answer
    pub due : IsDue (machine_of {Machine = Machine} {Form = Form} rules program) (CountsAsOne rules settings.merge)
        (IsFindingOf rules program) settings.merge settings.steps settings.limit (length book.entries) answer
    pub headline : IsTrueOf Machine Form rules program answer
    pub first : TellsFirst (machine_of rules program) book.entries answer
    pub closed : TellsClosed book answer
    pub shares : List Share
    pub workers : length shares ≡ settings.workers
    pub sums : ledger shares ≡ record {
      expanded = (totals_of book).expanded;
      entered = (totals_of book).entered;
      met = (totals_of book).met;
    }
    pub status : output.status ≡ status_of answer
    pub out : string_bytes output.out ≡ report_text with_ledger answer (totals_of book) shares
    pub err : string_bytes output.err ≡ []
    pub file : IsBookDue asks_book answer book.entries output.book

  -- the output shows the history and the finding of the state that the schedule reaches
  pub record IsReplayed (schedule : List ℕ) (output : Output) : Type 0 where
    pub state : State Machine Memory Place Form
    pub finding : Finding
    pub leads : after (machine_of rules program) schedule ≡ Some state
    pub found : IsFindingOf rules program state finding
    pub printed : IsPage (if is_sound finding then 0 else 1)
        (operations_text program (history_of state) ++ verdict_text finding) output

  -- the output names the first step of the schedule whose thread is not enabled, counted from 1
  pub record IsStuck (schedule : List ℕ) (output : Output) : Type 0 where
    pub before : ℕ
    pub thread : ℕ
    pub stops : StopsAt (machine_of {Machine = Machine} {Form = Form} rules program) schedule
        (replay_fault.NotEnabled (before + 1))
    pub is_next : slice_get schedule before ≡ Some thread
    pub printed : IsRefusal 4 (no_step_text (before + 1) thread) output

  -- the output says that the bytes pass as a book file, and then every schedule holds; or it names the first cause for
  -- which they are refused
  abbrev pub IsChecked : List ℕ → Output → Type 0
  IsChecked bytes output =
      ((entries : ℕ) × PassAs Machine Form rules program bytes entries × HoldsAlways Machine Form rules program
      × IsPage 0 (passed_text entries) output)
      ⊎ ((fault : CheckFault) × IsRefusedFor Machine Form rules program bytes fault × (fault ≢ check_fault.OutOfMemory)
      × IsRefusal 3 (codes "book refused: " ++ check_fault_text fault) output)

  -- the request is answered, given what came of the book file to check
  abbrev pub IsAnswered : BookRead → Request → Output → Type 0
  IsAnswered book (request.Explore file options with_ledger out) output =
      IsExplored options with_ledger (is_some out) output
  IsAnswered book (request.Replay file schedule) output =
      IsReplayed schedule.items output ⊎ IsStuck schedule.items output
  IsAnswered (book_read.Read bytes) (request.Check file name) output = IsChecked bytes.items output
  IsAnswered book (request.Check file name) output = IsUnreadable name.now output

-- the request is answered on the machine that the program names
abbrev pub IsAnsweredBy : Tree → Program → BookRead → Request → Output → Type 0
IsAnsweredBy tree.Atomic program book asked output = IsAnswered Atomic AtomicForm atomic_rules program book asked output
IsAnsweredBy tree.Ellen program book asked output =
    IsAnswered Ellen (List ℕ) (ellen_rules (record { mark = true; iflag = true })) program book asked output
IsAnsweredBy tree.EllenNoMark program book asked output =
    IsAnswered Ellen (List ℕ) (ellen_rules (record { mark = false; iflag = true })) program book asked output
IsAnsweredBy tree.EllenNoIflag program book asked output =
    IsAnswered Ellen (List ℕ) (ellen_rules (record { mark = true; iflag = false })) program book asked output
IsAnsweredBy tree.Nm program book asked output =
    IsAnswered NatMit (List ℕ) (natmit_rules (record { tag = true })) program book asked output
IsAnsweredBy tree.NmNoTag program book asked output =
    IsAnswered NatMit (List ℕ) (natmit_rules (record { tag = false })) program book asked output

-- a book file is read exactly where the request is to check one
abbrev pub IsAsked : Request → BookRead → Type 0
IsAsked (request.Check file name) book = book ≢ book_read.NotAsked
IsAsked asked book = book ≡ book_read.NotAsked

-- the output says why FILE gives no program; there is no output where memory ran out
abbrev pub TellsUnloaded : Request → LoadFault → Output → Type 0
TellsUnloaded asked load.Device output = IsUnreadable (file_of asked) output
TellsUnloaded asked (load.Program fault) output = (fault ≢ program_fault.OutOfMemory)
    × IsRefusal 3 (fault_text fault) output

-- How a request is answered, given what came of FILE (its bytes, or none where it can't be read) and of the book file.
-- The output is the answer for the program of the text; or it is the text's first fault, or that FILE can't be read,
-- and then no book file is read.
abbrev pub IsServed : Option (List ℕ) → BookRead → Request → Output → Type 0
IsServed None book asked output = (book ≡ book_read.NotAsked) × IsUnreadable (file_of asked) output
IsServed (Some text) book asked output =
    ((program : Program) × IsJsonTextOf text program × IsAsked asked book
    × IsAnsweredBy program.tree program book asked output)
    ⊎ ((fault : ProgramFault) × IsFirstFaultOf text fault × (fault ≢ program_fault.OutOfMemory)
    × (book ≡ book_read.NotAsked)
    × IsRefusal 3 (fault_text fault) output)

-- What came of reading a reader to its end: its bytes, and its count of failed reads is as before; or none, where a
-- read failed and is counted. The bytes are those that the reader had, where it says which these are.
abbrev pub IsRead : {F : Type 0} → (F → Option (List ℕ)) → Counted F → Counted F → Option (List ℕ) → Type 0
IsRead remaining before after None = after.failures ≡ before.failures + 1
IsRead remaining before after (Some text) = (after.failures ≡ before.failures)
    × IfSome (remaining before.reader) (λ all. text ≡ all)

-- what came of a book file by its reader, which stays as it was where it is not read
abbrev pub IsBookRead : {B : Type 0} → (B → Option (List ℕ)) → Counted B → Counted B → BookRead → Type 0
IsBookRead remaining before after book_read.NotAsked = after ≡ before
IsBookRead remaining before after book_read.Unreadable = IsRead remaining before after None
IsBookRead remaining before after (book_read.Read bytes) = IsRead remaining before after (Some bytes.items)

-- what may come of a book file that has no reader
abbrev pub IsUnopened : BookRead → Type 0
IsUnopened (book_read.Read bytes) = ⊥
IsUnopened _ = Unit {0}

-- the request is answered for something that came of FILE and of the book file: what files give, no contract can say
abbrev pub IsServedBySome : Request → Output → Type 0
IsServedBySome asked output = (file : Option (List ℕ)) × (book : BookRead) × IsServed file book asked output

-- the request is answered for what came of the reader of FILE and of the book file
abbrev pub IsServedFrom : {F : Type 0} → (F → Option (List ℕ)) → Counted F → Counted F → (BookRead → Type 0) → Request
    → Output → Type 0
IsServedFrom remaining before after Came asked output =
    (file : Option (List ℕ)) × (book : BookRead) × IsRead remaining before after file × Came book
    × IsServed file book asked output

-- the output is the one that was served; or it says that its book file can't be written to the file that is asked for
abbrev pub IsKept : Request → Output → Output → Type 0
IsKept asked served output =
    (output ≡ served)
    ⊎ ((name : Text) × (out_of asked ≡ Some name) × IsSome served.book × IsUnwritable name output)

-- the output answers the request of the words, or says why they make none
abbrev pub IsAnswerTo : List Text → Output → Type 0
IsAnswerTo words output =
    ((asked : Request) × AskFor words asked
    × ((served : Output) × IsServedBySome asked served × IsKept asked served output))
    ⊎ ((fault : WordsFault) × AreRefused words fault × TellsFault fault output)
