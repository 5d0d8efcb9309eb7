-- A value is the text of one program at most, and a text has no fault.
use Rattle.std.proofs.Common.{◌≡◌, ◌≢◌, ℕ, ◌≤◌, List, length, get_or, map, arith, refl, sym, ap, ◌∙◌}
use Rattle.std.proofs.Common.{Some, None, Result, Ok, Err, IfOk, IfErr, codes, sum}
use Rattle.std.proofs.lemmas.Option.{same_Some}
use Rattle.std.proofs.lemmas.List.Sums.{sum-map}
use Rattle.std.proofs.lemmas.List.Elements.{All-map}
use Rattle.serde_json.specs.Find.{get}
use Rattle.serde_json.specs.Read.{read}
use Rattle.serde_json.specs.Data.{Data, string, object, Members}
use Rattle.sched_program.specs.declared.operation.Op.{Op}
use Rattle.sched_program.specs.declared.operation.Op.TheVariants as op
use Rattle.sched_program.specs.declared.operation.Tree.{Tree}
use Rattle.sched_program.specs.declared.operation.Tree.TheVariants.{Atomic, Ellen, EllenNoMark, EllenNoIflag, Nm}
use Rattle.sched_program.specs.declared.operation.Tree.TheVariants.{NmNoTag}
use Rattle.sched_program.specs.declared.version.Version.{Version}
use Rattle.sched_program.specs.declared.version.Version.TheVariants.{First, Second}
use Rattle.sched_program.specs.declared.reader.OpWord.{OpWord}
use Rattle.sched_program.specs.declared.reader.OpWord.TheVariants.{Insert, Delete, Find}
use Rattle.sched_program.specs.declared.fault.ProgramFault.{ProgramFault}
use Rattle.sched_program.specs.declared.fault.ProgramFault.TheVariants as fault
use Rattle.sched_program.specs.Program.{Program, key_of}
use Rattle.sched_program.specs.Text.{IsListOf, IsKey, IsOp, IsTurn, HasThreads, HasTurn, HasTurns, HasVersion}
use Rattle.sched_program.specs.Text.{op_of, word_of, word_text, tree_name, IsTextOf}
use Rattle.sched_program.specs.Text.{IsJsonTextOf}
use Rattle.sched_program.specs.Faults.{Passes, IsFirstFault}
use Rattle.sched_program.proofs.Values.{IsUnique, same_list, same_member}
use Rattle.sched_program.proofs.Members.{same_key, threads_pass}

-- a name has one text
same_text : (name : List ℕ) (value : Data) (a b : List ℕ) → get name value ≡ Some (string a)
    → get name value ≡ Some (string b) → a ≡ b
same_text name value a b is also = cc

same_word_text : (a b : OpWord) → word_text a ≡ word_text b → a ≡ b
same_word_text Insert Insert e = refl
same_word_text Delete Delete e = refl
same_word_text Find Find e = refl
same_word_text a b e = absurd (omega (arith, ap (λ text. get_or text 0 0) e))

same_tree_name : (a b : Tree) → tree_name a ≡ tree_name b → a ≡ b
same_tree_name Atomic Atomic e = refl
same_tree_name Ellen Ellen e = refl
same_tree_name EllenNoMark EllenNoMark e = refl
same_tree_name EllenNoIflag EllenNoIflag e = refl
same_tree_name Nm Nm e = refl
same_tree_name NmNoTag NmNoTag e = refl
same_tree_name a b e = absurd (omega (arith, ap length e))

-- an operation is its word and its key
op_pieces : (op : Op) → op_of (word_of op) (key_of op) ≡ op
op_pieces (op.Insert key) = refl
op_pieces o = refl

same_op : IsUnique IsOp
same_op value a b is also =
    let word : word_of a ≡ word_of b =
    same_word_text (word_of a) (word_of b) (same_text (codes "op") value _ _ is.word also.word) in
    let key : key_of a ≡ key_of b = same_member IsKey (codes "key") same_key value _ _ is.key also.key in
    cc (op_pieces a, op_pieces b)

pub same_threads : IsUnique HasThreads
same_threads =
    same_member (IsListOf (IsListOf IsOp)) (codes "threads") (same_list (IsListOf IsOp) (same_list IsOp same_op))

pub same_version : IsUnique HasVersion
same_version value First First is also = refl
same_version value Second Second is also = refl
same_version value a b is also = cc

same_as_turn : IsUnique IsTurn
same_as_turn value a b is also =
    let thread : a.thread ≡ b.thread = cc in
    let count : a.count ≡ b.count = cc in
    λ j. record { thread = thread j; count = count j }

same_wait : (version : Version) → IsUnique (HasTurn version)
same_wait First value a b is also = is ∙ sym also
same_wait Second value None None is also = refl
same_wait Second value (Some a) (Some b) is also =
    ap Some (same_member IsTurn (codes "after") same_as_turn value a b is also)
same_wait Second value a b is also = cc

pub same_turns : (version : Version) → IsUnique (HasTurns version)
same_turns version =
    same_member (IsListOf (IsListOf (HasTurn version))) (codes "threads")
    (same_list (IsListOf (HasTurn version)) (same_list (HasTurn version) (same_wait version)))

-- a value is the text of one program at most
pub same_program : IsUnique IsTextOf
same_program value p q is also =
    let tree = same_tree_name p.tree q.tree (same_text (codes "tree") value _ _ is.tree also.tree) in
    let initial =
    same_member (IsListOf IsKey) (codes "initial") (same_list IsKey same_key) value p.initial q.initial is.initial
    also.initial in
    let threads = same_threads value p.threads q.threads is.threads also.threads in
    let version = same_version value is.version also.version is.has_version also.has_version in
    let turns = same_turns also.version value p.turns q.turns (rw version at is.turns) also.turns in
    λ j. record { tree = tree j; initial = initial j; threads = threads j; turns = turns j }

-- what has a member is an object
has_members : (name : List ℕ) (value member : Data) → get name value ≡ Some member → (members : Members)
    × (value ≡ object members)
has_members name (object ms) member is = (ms, refl)
has_members name value member is = cc

-- a text's threads pass each test of theirs
all_threads_pass : (value : Data) (program : Program) → IsTextOf value program → Passes value fault.Threads
    × Passes value fault.Ops × Passes value fault.Op × Passes value fault.Key
all_threads_pass value program is =
    let each = All-map (λ count. (1 ≤ count) × (count ≤ 6)) length program.threads is.limits.op_counts in
    let total : sum (map length program.threads) ≤ 12 = rw (sum-map length program.threads) is.limits.total in
    threads_pass value program.threads is.threads is.limits.some_thread is.limits.thread_count
    (record { each = each; total = total })

-- a text passes each test
passes_all : (value : Data) (program : Program) → IsTextOf value program → (fault : ProgramFault) → Passes value fault
passes_all value program is fault.NotObject = has_members (codes "version") value _ is.has_version
passes_all value program is fault.Version = (is.version, is.has_version)
passes_all value program is fault.Tree = (program.tree, is.tree)
passes_all value program is fault.Initial =
    (is.initial.0, is.initial.1, (program.initial, is.initial.2, is.limits.initial.count))
passes_all value program is fault.InitialTwice =
    (is.initial.0, is.initial.1, (program.initial, is.initial.2, is.limits.initial.distinct))
passes_all value program is fault.Threads = (all_threads_pass value program is).0
passes_all value program is fault.Ops = (all_threads_pass value program is).1
passes_all value program is fault.Op = (all_threads_pass value program is).2
passes_all value program is fault.Key = (all_threads_pass value program is).3
passes_all value program is fault.After =
    (is.version, program.threads, program.turns, is.has_version, is.threads, is.turns, is.limits.turns)
passes_all value program is other = tt

-- a text has no first fault but a refusal of memory
no_fault : (value : Data) (program : Program) (stated : ProgramFault) → IsTextOf value program
    → IsFirstFault value stated → stated ≡ fault.OutOfMemory
no_fault value program fault.OutOfMemory is first = refl
no_fault value program stated is first = absurd (first.stands (passes_all value program is stated))

module _ (bytes : List ℕ) (value : Data) (is : read bytes ≡ Some value) where
  of_value : (program : Program) → IsJsonTextOf bytes program → IsTextOf value program
  of_value program text = rw (same_Some _ _ (sym text.1.reads ∙ is)) at text.2

  -- a program of the value is the only one of the bytes
  pub only_program : (answer : Result Program ProgramFault) → IfOk answer (IsTextOf value)
      → IfOk answer (λ program. (other : Program) → IsJsonTextOf bytes other → other ≡ program)
  only_program (Ok program) has = λ other text. same_program value other program (of_value other text) has
  only_program (Err stated) has = tt

  -- bytes whose value has a fault are the text of no program
  pub no_program : (answer : Result Program ProgramFault) → IfErr answer (IsFirstFault value)
      → IfErr answer (λ stated. stated ≢ fault.OutOfMemory → (program : Program) → ¬ IsJsonTextOf bytes program)
  no_program (Ok program) first = tt
  no_program (Err stated) first = λ other program text. other
      (no_fault value program stated (of_value program text) first)
