-- The faults of a text, in the order in which they are reported.
use Rattle.std.specs.Prelude.{◌≡◌, ◌≢◌, ℕ, suc, ◌≤◌, List, [], ◌∷◌, codes, length, Option, All, AllPairs, sum}
use Rattle.std.specs.List.{AllByRecursion}
use Rattle.serde_json.specs.Data.{Data, array, object, Items, no_items, item, Members}
use Rattle.sched_program.specs.declared.operation.Op.{Op}
use Rattle.sched_program.specs.declared.operation.Tree.{Tree}
use Rattle.sched_program.specs.declared.operation.Turn.{Turn}
use Rattle.sched_program.specs.declared.version.Version.{Version}
use Rattle.sched_program.specs.declared.reader.OpWord.{OpWord}
use Rattle.sched_program.specs.Program.{AreTurnsWithin}
use Rattle.sched_program.specs.Text.{HasMember, IsListOf, IsKey, HasKey, HasWord, HasVersion, HasTree, HasThreads}
use Rattle.sched_program.specs.Text.{HasTurns, IsJsonOf}
use Rattle.sched_program.specs.declared.fault.ProgramFault.{ProgramFault}
use Rattle.sched_program.specs.declared.fault.ProgramFault.TheVariants as fault

abbrev pub item_count : Items → ℕ
item_count no_items = 0
item_count (item value values) = suc (item_count values)

-- the value is a list of `count` items
abbrev pub IsListOfCount : Data → ℕ → Type 0
IsListOfCount value count = (values : Items) × (value ≡ array values) × (item_count values ≡ count)

-- the value is a list, and the number of its items is from the one to the other
abbrev pub IsListWithin : ℕ → ℕ → Data → Type 0
IsListWithin least most value = (count : ℕ) × IsListOfCount value count × (least ≤ count) × (count ≤ most)

abbrev pub IsShortListOfKeys : Data → Type 0
IsShortListOfKeys value = (keys : List ℕ) × IsListOf IsKey value keys × (length keys ≤ 12)

abbrev pub IsListOfDistinctKeys : Data → Type 0
IsListOfDistinctKeys value = (keys : List ℕ) × IsListOf IsKey value keys × AllPairs (λ a b. a ≢ b) keys

-- the numbers of operations that threads may have
pub record AreOpCounts (counts : List ℕ) : Type 0 where
  pub each : All (λ count. (1 ≤ count) × (count ≤ 6)) counts
  pub total : sum counts ≤ 12

-- each thread is a list, and they have such numbers of items
abbrev pub HasOpCounts : Data → Type 0
HasOpCounts threads = (counts : List ℕ) × IsListOf IsListOfCount threads counts × AreOpCounts counts

-- each item of each thread has a word
abbrev pub HasWords : Data → Type 0
HasWords threads = (words : List (List OpWord)) × IsListOf (IsListOf HasWord) threads words

-- each item of each thread has a key
abbrev pub HasKeys : Data → Type 0
HasKeys threads = (keys : List (List ℕ)) × IsListOf (IsListOf HasKey) threads keys

-- what the operations wait for is written as in the value's version, and is within the limits
abbrev pub HasTurnsWithin : Data → Type 0
HasTurnsWithin value = (version : Version) × (threads : List (List Op)) × (turns : List (List (Option Turn)))
    × HasVersion value version × HasThreads value threads × HasTurns version value turns × AreTurnsWithin threads turns

-- the value passes the test of this fault. A test of a member also requires that the member is there
abbrev pub Passes : Data → ProgramFault → Type 0
Passes value fault.NotJson = Unit {0}
Passes value fault.NotObject = (members : Members) × (value ≡ object members)
Passes value fault.Version = (version : Version) × HasVersion value version
Passes value fault.Tree = (tree : Tree) × HasTree value tree
Passes value fault.Initial = HasMember (codes "initial") IsShortListOfKeys value
Passes value fault.InitialTwice = HasMember (codes "initial") IsListOfDistinctKeys value
Passes value fault.Threads = HasMember (codes "threads") (IsListWithin 1 4) value
Passes value fault.Ops = HasMember (codes "threads") HasOpCounts value
Passes value fault.Op = HasMember (codes "threads") HasWords value
Passes value fault.Key = HasMember (codes "threads") HasKeys value
Passes value fault.After = HasTurnsWithin value
Passes value fault.OutOfMemory = Unit {0}

-- the value has the fault. A refusal of memory may come of any value
abbrev pub Stands : Data → ProgramFault → Type 0
Stands value fault.OutOfMemory = Unit {0}
Stands value fault = ¬ Passes value fault

-- the faults of a value that are reported before this one
abbrev pub earlier : ProgramFault → List ProgramFault
earlier fault.NotJson = []
earlier fault.NotObject = []
earlier fault.Version = fault.NotObject ∷ []
earlier fault.Tree = fault.NotObject ∷ fault.Version ∷ []
earlier fault.Initial = fault.NotObject ∷ fault.Version ∷ fault.Tree ∷ []
earlier fault.InitialTwice = fault.NotObject ∷ fault.Version ∷ fault.Tree ∷ fault.Initial ∷ []
earlier fault.Threads = fault.NotObject ∷ fault.Version ∷ fault.Tree ∷ fault.Initial ∷ fault.InitialTwice ∷ []
earlier fault.Ops =
    fault.NotObject ∷ fault.Version ∷ fault.Tree ∷ fault.Initial ∷ fault.InitialTwice ∷ fault.Threads ∷ []
earlier fault.Op =
    fault.NotObject ∷ fault.Version ∷ fault.Tree ∷ fault.Initial ∷ fault.InitialTwice ∷ fault.Threads ∷ fault.Ops ∷ []
earlier fault.Key = fault.NotObject ∷ fault.Version ∷ fault.Tree ∷ fault.Initial ∷ fault.InitialTwice ∷ fault.Threads
    ∷ fault.Ops ∷ fault.Op ∷ []
earlier fault.After =
    fault.NotObject ∷ fault.Version ∷ fault.Tree ∷ fault.Initial ∷ fault.InitialTwice ∷ fault.Threads ∷ fault.Ops
    ∷ fault.Op ∷ fault.Key ∷ []
earlier fault.OutOfMemory = []

-- the value has the fault, and none that is reported before it
pub record IsFirstFault (value : Data) (fault : ProgramFault) : Type 0 where
  pub stands : Stands value fault
  pub first : AllByRecursion (Passes value) (earlier fault)

-- the first fault of the bytes: they have no value, or it is their value's
abbrev pub IsFirstFaultOf : List ℕ → ProgramFault → Type 0
IsFirstFaultOf bytes fault.NotJson = (value : Data) → ¬ IsJsonOf bytes value
IsFirstFaultOf bytes fault.OutOfMemory = Unit {0}
IsFirstFaultOf bytes fault = (value : Data) × IsJsonOf bytes value × IsFirstFault value fault
