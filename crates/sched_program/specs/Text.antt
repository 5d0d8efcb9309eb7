-- Which program a JSON text describes.
use Rattle.std.specs.Prelude.{◌≡◌, ℕ, List, [], ◌∷◌, codes, Option, Some, None, IsUtf8}
use Rattle.serde_json.specs.Data.{unsigned, Data, number, string, array, Items, no_items, item}
use Rattle.serde_json.specs.Find.{get}
use Rattle.serde_json.specs.Read.{read}
use Rattle.sched_program.specs.declared.operation.Op.{Op}
use Rattle.sched_program.specs.declared.operation.Op.TheVariants as op
use Rattle.sched_program.specs.declared.operation.Tree.{Tree}
use Rattle.sched_program.specs.declared.operation.Tree.TheVariants.{Atomic, Ellen, EllenNoMark, EllenNoIflag, Nm}
use Rattle.sched_program.specs.declared.operation.Tree.TheVariants.{NmNoTag}
use Rattle.sched_program.specs.declared.operation.Turn.{Turn}
use Rattle.sched_program.specs.declared.version.Version.{Version}
use Rattle.sched_program.specs.declared.version.Version.TheVariants.{First, Second}
use Rattle.sched_program.specs.declared.reader.OpWord.{OpWord}
use Rattle.sched_program.specs.declared.reader.OpWord.TheVariants.{Insert, Delete, Find}
use Rattle.sched_program.specs.Program.{Program, IsUserKey, key_of, IsWithinLimits}

-- the value is an object whose member of this name is such a value
abbrev pub HasMember : List ℕ → (Data → Type 0) → Data → Type 0
HasMember name Is value = (member : Data) × (get name value ≡ Some member) × Is member

-- one value for each thing, which stands for the thing at its place
abbrev pub Each : {A : Type 0} → (Data → A → Type 0) → Items → List A → Type 0
Each StandsFor no_items [] = Unit {0}
Each StandsFor (item value values) (x ∷ xs) = StandsFor value x × Each StandsFor values xs
Each StandsFor no_items (x ∷ xs) = ⊥
Each StandsFor (item value values) [] = ⊥

-- the value is a list of values that stand for these things
abbrev pub IsListOf : {A : Type 0} → (Data → A → Type 0) → Data → List A → Type 0
IsListOf StandsFor value xs = (values : Items) × (value ≡ array values) × Each StandsFor values xs

-- a user key, written as digits alone
abbrev pub IsKey : Data → ℕ → Type 0
IsKey value key = (value ≡ number (unsigned key)) × IsUserKey key

abbrev pub HasKey : Data → ℕ → Type 0
HasKey value key = HasMember (codes "key") (λ member. IsKey member key) value

abbrev pub word_text : OpWord → List ℕ
word_text Insert = codes "insert"
word_text Delete = codes "delete"
word_text Find = codes "find"

abbrev pub HasWord : Data → OpWord → Type 0
HasWord value word = get (codes "op") value ≡ Some (string (word_text word))

-- the operation with this word and this key
abbrev pub op_of : OpWord → ℕ → Op
op_of Insert key = op.Insert key
op_of Delete key = op.Delete key
op_of Find key = op.Find key

abbrev pub word_of : Op → OpWord
word_of (op.Insert key) = Insert
word_of (op.Delete key) = Delete
word_of (op.Find key) = Find

pub record IsOp (value : Data) (op : Op) : Type 0 where
  pub word : HasWord value (word_of op)
  pub key : HasKey value (key_of op)

-- the value is the list of the turn's two numbers, written as digits alone
abbrev pub IsTurn : Data → Turn → Type 0
IsTurn value turn = value ≡ array (item (number (unsigned turn.thread)) (item (number (unsigned turn.count)) no_items))

-- what an operation waits for. In version 1 none waits, and a member `after` is ignored as other members are
abbrev pub HasTurn : Version → Data → Option Turn → Type 0
HasTurn First value turn = turn ≡ None
HasTurn Second value None = get (codes "after") value ≡ None
HasTurn Second value (Some turn) = HasMember (codes "after") (λ member. IsTurn member turn) value

abbrev pub HasThreads : Data → List (List Op) → Type 0
HasThreads value threads = HasMember (codes "threads") (λ member. IsListOf (IsListOf IsOp) member threads) value

abbrev pub HasTurns : Version → Data → List (List (Option Turn)) → Type 0
HasTurns version value turns =
    HasMember (codes "threads") (λ member. IsListOf (IsListOf (HasTurn version)) member turns) value

abbrev pub tree_name : Tree → List ℕ
tree_name Atomic = codes "atomic"
tree_name Ellen = codes "ellen"
tree_name EllenNoMark = codes "ellen-no-mark"
tree_name EllenNoIflag = codes "ellen-no-iflag"
tree_name Nm = codes "nm"
tree_name NmNoTag = codes "nm-no-tag"

abbrev pub version_number : Version → ℕ
version_number First = 1
version_number Second = 2

abbrev pub HasVersion : Data → Version → Type 0
HasVersion value version = get (codes "version") value ≡ Some (number (unsigned (version_number version)))

abbrev pub HasTree : Data → Tree → Type 0
HasTree value tree = get (codes "tree") value ≡ Some (string (tree_name tree))

-- the value is the text of this program, which meets the limits
pub record IsTextOf (value : Data) (program : Program) : Type 0 where
  pub version : Version
  pub has_version : HasVersion value version
  pub tree : HasTree value program.tree
  pub initial : HasMember (codes "initial") (λ member. IsListOf IsKey member program.initial) value
  pub threads : HasThreads value program.threads
  pub turns : HasTurns version value program.turns
  pub limits : IsWithinLimits program

-- the bytes are a JSON text with this value
pub record IsJsonOf (bytes : List ℕ) (value : Data) : Type 0 where
  pub utf8 : IsUtf8 bytes
  pub reads : read bytes ≡ Some value

-- the bytes are a JSON text whose value is the text of this program
abbrev pub IsJsonTextOf : List ℕ → Program → Type 0
IsJsonTextOf bytes program = (value : Data) × IsJsonOf bytes value × IsTextOf value program
