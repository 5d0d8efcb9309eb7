-- What the program prints.
use Rattle.std.specs.Prelude.{◌≡◌, ℕ, ◌+◌, Bool, true, false, List, [], ◌∷◌, ◌++◌, Option, Some, None, codes, length}
use Rattle.std.specs.Prelude.{if◌then◌else◌}
use Rattle.std.specs.Fmt.{decimal}
use Rattle.std.specs.String.{string_bytes}
use Rattle.std.specs.List.{flat_map}
use Rattle.sched_program.specs.declared.fault.ProgramFault.{ProgramFault}
use Rattle.sched_program.specs.declared.fault.ProgramFault.TheVariants as program_fault
use Rattle.sched_program.specs.declared.operation.Op.{Op}
use Rattle.sched_program.specs.declared.operation.Op.TheVariants.{Insert, Delete, Find}
use Rattle.sched_program.specs.declared.operation.OpId.{OpId}
use Rattle.sched_program.specs.History.{History, reply}
use Rattle.sched_program.specs.Program.{Program, op_at}
use Rattle.std.specs.Option.{option_map_or}
use Rattle.replay.specs.declared.finding.Finding.{Finding}
use Rattle.replay.specs.declared.finding.Finding.TheVariants as finding
use Rattle.book.specs.declared.book.Totals.{Totals}
use Rattle.replay.specs.declared.file.fault.CheckFault.{CheckFault}
use Rattle.replay.specs.declared.file.fault.CheckFault.TheVariants as check_fault
use Rattle.reports.specs.declared.answer.Answer.{Answer}
use Rattle.reports.specs.declared.answer.Answer.TheVariants as answer
use Rattle.reports.specs.declared.answer.Share.{Share}
use Rattle.words.specs.declared.request.WordsFault.{WordsFault}
use Rattle.words.specs.declared.request.WordsFault.TheVariants as words
use Rattle.treesched_lib.specs.declared.serving.Output.{Output}

abbrev pub line_end : List ℕ
line_end = 10 ∷ []

abbrev pub finding_name : Finding → List ℕ
finding_name finding.Astray = codes "astray"
finding_name finding.Order = codes "order"
finding_name finding.History = codes "history"
finding_name (finding.Sound order) = codes "sound"

abbrev pub name_text : OpId → List ℕ
name_text id = decimal id.thread ++ codes "." ++ decimal id.index

abbrev pub op_text : Op → List ℕ
op_text (Insert key) = codes "insert " ++ decimal key
op_text (Delete key) = codes "delete " ++ decimal key
op_text (Find key) = codes "find " ++ decimal key

abbrev pub reply_text : Option Bool → List ℕ
reply_text None = codes "pending"
reply_text (Some reply) = if reply then codes "true" else codes "false"

-- the line of an operation that began: its name, its word, its key, and its reply
abbrev pub operation_text : Program → History → OpId → List ℕ
operation_text program history id = option_map_or (λ op. name_text id ++ codes " " ++ op_text op ++ codes " "
    ++ reply_text (reply history id) ++ line_end) (op_at program id.thread id.index) []

abbrev pub operations_text : Program → History → List ℕ
operations_text program history = flat_map (λ e. operation_text program history e.0) history.begun

-- numbers joined by commas
abbrev pub list_text : List ℕ → List ℕ
list_text [] = []
list_text (n ∷ rest) = decimal n ++ flat_map (λ m. codes "," ++ decimal m) rest

abbrev pub order_text : List OpId → List ℕ
order_text [] = codes "order -" ++ line_end
order_text (id ∷ rest) = codes "order" ++ flat_map (λ i. codes " " ++ name_text i) (id ∷ rest) ++ line_end

-- what a replay reports of its last state
abbrev pub verdict_text : Finding → List ℕ
verdict_text (finding.Sound order) = order_text order ++ codes "no fault" ++ line_end
verdict_text fault = codes "fault " ++ finding_name fault ++ line_end

abbrev pub holds_text : ℕ → List ℕ
holds_text steps = codes "holds to " ++ decimal steps ++ codes " steps" ++ line_end

abbrev pub holds_for_every_text : List ℕ
holds_for_every_text = codes "holds for every schedule" ++ line_end

abbrev pub states_text : ℕ → List ℕ
states_text states = codes "states " ++ decimal states ++ line_end

-- the answer of an exploration, with the number of states that it met
abbrev pub answer_text : ℕ → Answer → List ℕ
answer_text states answer.Every = holds_for_every_text ++ states_text states
answer_text states (answer.Holds steps) = holds_text steps ++ states_text states
answer_text states (answer.Fault fault schedule) = codes "fault " ++ finding_name fault ++ codes " after "
    ++ decimal (length schedule.items) ++ codes " steps" ++ line_end
    ++ codes "schedule " ++ list_text schedule.items ++ line_end ++ states_text states
answer_text states (answer.Stopped limit holds_to) = codes "stopped at " ++ decimal limit ++ codes " states" ++ line_end
    ++ holds_text holds_to

abbrev pub counts_text : ℕ → ℕ → ℕ → List ℕ
counts_text expanded entered met = codes " expanded " ++ decimal expanded ++ codes " entered " ++ decimal entered
    ++ codes " met " ++ decimal met ++ line_end

-- a line for each worker, numbered from the first
abbrev pub workers_text : ℕ → List Share → List ℕ
workers_text first [] = []
workers_text first (s ∷ rest) = codes "worker " ++ decimal first ++ counts_text s.expanded s.entered s.met
    ++ workers_text (first + 1) rest

abbrev pub ledger_text : List Share → Totals → List ℕ
ledger_text shares totals =
    workers_text 1 shares ++ codes "total" ++ counts_text totals.expanded totals.entered totals.met

-- all lines of an exploration
abbrev pub report_text : Bool → Answer → Totals → List Share → List ℕ
report_text ledger answer totals shares =
    answer_text totals.entries answer ++ (if ledger then ledger_text shares totals else [])

abbrev pub no_step_text : ℕ → ℕ → List ℕ
no_step_text step thread =
    codes "step " ++ (decimal step ++ (codes ": thread " ++ (decimal thread ++ codes " has no step")))

-- the number and the name of a fault of a program
abbrev pub fault_text : ProgramFault → List ℕ
fault_text program_fault.NotJson = codes "P1 NotJson"
fault_text program_fault.NotObject = codes "P2 NotObject"
fault_text program_fault.Version = codes "P3 Version"
fault_text program_fault.Tree = codes "P4 Tree"
fault_text program_fault.Initial = codes "P5 Initial"
fault_text program_fault.InitialTwice = codes "P6 InitialTwice"
fault_text program_fault.Threads = codes "P7 Threads"
fault_text program_fault.Ops = codes "P8 Ops"
fault_text program_fault.Op = codes "P9 Op"
fault_text program_fault.Key = codes "P10 Key"
fault_text program_fault.OutOfMemory = codes "P11 OutOfMemory"
fault_text program_fault.After = codes "P12 After"

-- the exit status for an answer
abbrev pub status_of : Answer → ℕ
status_of answer.Every = 0
status_of (answer.Holds steps) = 0
status_of (answer.Fault fault schedule) = 1
status_of (answer.Stopped limit holds_to) = 2

abbrev pub check_fault_text : CheckFault → List ℕ
check_fault_text (check_fault.Form line) = codes "C1 at line " ++ decimal line
check_fault_text (check_fault.Parent line) = codes "C2 at line " ++ decimal line
check_fault_text (check_fault.Step line) = codes "C3 at line " ++ decimal line
check_fault_text (check_fault.Fault line) = codes "C4 at line " ++ decimal line
check_fault_text (check_fault.History line) = codes "C5 at line " ++ decimal line
check_fault_text (check_fault.Open line) = codes "C6 at line " ++ decimal line
check_fault_text check_fault.OutOfMemory = codes "C7"

-- what is printed for a book file that passes, with its number of entries
abbrev pub passed_text : ℕ → List ℕ
passed_text entries = codes "every schedule holds" ++ line_end ++ states_text entries

-- the output is a text on the standard output alone, without a book file
abbrev pub IsPage : ℕ → List ℕ → Output → Type 0
IsPage status text output = (output.status ≡ status) × (string_bytes output.out ≡ text)
    × (string_bytes output.err ≡ []) × (output.book ≡ None)

-- the output is a refusal: one line on the standard error, and nothing on the standard output
abbrev pub IsRefusal : ℕ → List ℕ → Output → Type 0
IsRefusal status text output = (output.status ≡ status) × (string_bytes output.out ≡ [])
    × (string_bytes output.err ≡ codes "treesched: " ++ text ++ line_end) × (output.book ≡ None)

-- the output says that a file can't be read, or can't be written
abbrev pub IsUnreadable : List ℕ → Output → Type 0
IsUnreadable name output = IsRefusal 6 (codes "can't read " ++ name) output

abbrev pub IsUnwritable : List ℕ → Output → Type 0
IsUnwritable name output = IsRefusal 6 (codes "can't write " ++ name) output

-- the output says why the words make no request; there is no output where memory ran out
abbrev pub TellsFault : WordsFault → Output → Type 0
TellsFault (words.Usage true text) output =
    (output.status ≡ 0) × (output.out ≡ text) × (string_bytes output.err ≡ []) × (output.book ≡ None)
TellsFault (words.Usage false text) output =
    (output.status ≡ 4) × (string_bytes output.out ≡ []) × (output.err ≡ text) × (output.book ≡ None)
TellsFault words.Schedule output = IsRefusal 4 (codes "bad schedule") output
TellsFault words.BookMerge output = IsRefusal 4 (codes "--book needs --merge names") output
TellsFault words.OutOfMemory output = ⊥
