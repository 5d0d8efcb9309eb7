-- What the members of a program's text are, and are not.
use Rattle.std.proofs.Common.{◌≡◌, ◌≢◌, ℕ, ◌≤◌, List, ◌++◌, length, map, arith, sym, ap, ◌∙◌, All}
use Rattle.std.proofs.Common.{AllPairs, Bool, Option, true, false, MatchBool, codes}
use Rattle.std.proofs.lemmas.List.Sums.{sum-map}
use Rattle.std.specs.List.{AllByRecursion}
use Rattle.serde_json.specs.Data.{Data, Members, object}
use Rattle.sched_program.specs.declared.reader.OpWord.{OpWord}
use Rattle.sched_program.specs.declared.reader.OpWord.TheVariants.{Insert}
use Rattle.sched_program.specs.declared.operation.Op.{Op}
use Rattle.sched_program.specs.declared.operation.Tree.{Tree}
use Rattle.sched_program.specs.declared.operation.Turn.{Turn}
use Rattle.sched_program.specs.declared.version.Version.{Version}
use Rattle.sched_program.specs.declared.fault.ProgramFault.{ProgramFault}
use Rattle.sched_program.specs.declared.fault.ProgramFault.TheVariants as fault
use Rattle.sched_program.specs.Program.{IsUserKey, key_of, AreTurnsWithin, IsWithinLimits}
use Rattle.sched_program.specs.Text.{IsListOf, HasMember, IsKey, HasKey, HasWord, IsOp, HasThreads, HasTurn, HasTurns}
use Rattle.sched_program.specs.Text.{HasTree, HasVersion, op_of, word_of}
use Rattle.sched_program.specs.Faults.{item_count, IsListOfCount, IsListWithin, IsShortListOfKeys, IsListOfDistinctKeys}
use Rattle.sched_program.specs.Faults.{HasOpCounts, HasWords, HasKeys, AreOpCounts, Passes, earlier}
use Rattle.sched_program.proofs.Values.{IsUnique, Each-All, of_map_All, same_items, of_member, list_counted}
use Rattle.sched_program.proofs.Values.{same_list, list_map, list_both}

-- a list of keys is one of few keys only if its length is
pub keys_bounded_within : (value : Data) → IsShortListOfKeys value → IsListWithin 0 12 value
keys_bounded_within value bounded =
    (length bounded.0, list_counted IsKey value bounded.0 bounded.1, omega arith, bounded.2)

-- a value is one key at most
pub same_key : IsUnique IsKey
same_key value a b is also = cc (is.0, also.0)

-- a list has one number of items
pub same_counted : IsUnique IsListOfCount
same_counted value a b is also = sym is.2 ∙ ap item_count (same_items value is.0 also.0 is.1 also.1) ∙ also.2

-- the lengths of threads are the counts of their list
pub thread_counts : (value : Data) (threads : List (List Op)) → IsListOf (IsListOf IsOp) value threads
    → HasOpCounts value → AreOpCounts (map length threads)
thread_counts value threads list counts =
    let lengths = list_map (IsListOf IsOp) IsListOfCount length (list_counted IsOp) value threads list in
    rw (same_list IsListOfCount same_counted value counts.0 (map length threads) counts.1 lengths) at counts.2

pub within : {A : Type 0} (StandsFor : Data → A → Type 0) (value : Data) (xs : List A) (least most : ℕ)
    → IsListOf StandsFor value xs → IsListWithin least most value → (least ≤ length xs) × (length xs ≤ most)
within StandsFor value xs least most list bounded =
    rw (same_counted value _ _ (list_counted StandsFor value xs list) bounded.1) (bounded.2, bounded.3)

-- a word and a key are an operation
pub op_joined : (value : Data) (word : OpWord) (key : ℕ) → HasWord value word → HasKey value key
    → (op : Op) × IsOp value op
op_joined value Insert key has also = (op_of Insert key, record { word = has; key = also })
op_joined value word key has also = (op_of word key, record { word = has; key = also })

-- where there are words but no operations, there are no keys
pub no_keys : (value : Data) → HasWords value → ((threads : List (List Op)) → ¬ IsListOf (IsListOf IsOp) value threads)
    → ¬ HasKeys value
no_keys value words none keys =
    let each = list_both HasWord HasKey IsOp op_joined in
    let found = list_both _ _ (IsListOf IsOp) each value words.0 keys.0 words.1 keys.1 in none found.0 found.1

-- a value's counts fit if those that were read do
pub counts_fit : (value : Data) (counts : List ℕ) (fit : Bool) → IsListOf IsListOfCount value counts
    → MatchBool fit (AreOpCounts counts) (¬ AreOpCounts counts)
    → MatchBool fit (HasOpCounts value) (¬ HasOpCounts value)
counts_fit value counts true list are = (counts, list, are)
counts_fit value counts false list are =
    λ has. are (rw (same_list IsListOfCount same_counted value has.0 counts has.1 list) at has.2)

-- where keys are not distinct, the member is no list of distinct keys
pub not_distinct : (value : Data) (keys : List ℕ)
    → HasMember (codes "initial") (λ member. IsListOf IsKey member keys) value → ¬ AllPairs (λ a b. a ≢ b) keys
    → ¬ HasMember (codes "initial") IsListOfDistinctKeys value
not_distinct value keys has not other =
    let found = of_member IsListOfDistinctKeys (codes "initial") value has.0 (sym has.1) other in
    not (rw (same_list IsKey same_key has.0 found.0 keys found.1 has.2) at found.2)

-- threads of permitted numbers of operations pass each test of theirs
pub threads_pass : (value : Data) (threads : List (List Op)) → HasThreads value threads → 1 ≤ length threads
    → length threads ≤ 4 → AreOpCounts (map length threads)
    → Passes value fault.Threads × Passes value fault.Ops × Passes value fault.Op × Passes value fault.Key
threads_pass value threads has some bounded counts =
    let count = list_counted (IsListOf IsOp) has.0 threads has.2 in
    let lengths = list_map (IsListOf IsOp) IsListOfCount length (list_counted IsOp) has.0 threads has.2 in
    let words =
    list_map _ (IsListOf HasWord) (map word_of) (list_map IsOp HasWord word_of (λ v op is. is.word)) has.0 _ has.2 in
    let keys =
    list_map _ (IsListOf HasKey) (map key_of) (list_map IsOp HasKey key_of (λ v op is. is.key)) has.0 _ has.2 in (
      (has.0, has.1, (length threads, count, some, bounded)),
      (has.0, has.1, (map length threads, lengths, counts)),
      (has.0, has.1, (map (map word_of) threads, words)),
      (has.0, has.1, (map (map key_of) threads, keys)),
    )

-- each thread of a value has as many turns as operations
same_counts : (value : Data) (version : Version) (threads : List (List Op)) (turns : List (List (Option Turn)))
    → HasThreads value threads → HasTurns version value turns → map length turns ≡ map length threads
same_counts value version threads turns has also =
    let there =
    of_member (λ member. IsListOf (IsListOf (HasTurn version)) member turns) (codes "threads") value has.0
    (sym has.1) also in
    same_list IsListOfCount same_counted has.0 (map length turns) (map length threads)
    (list_map _ _ length (list_counted (HasTurn version)) has.0 turns there)
    (list_map _ _ length (list_counted IsOp) has.0 threads has.2)

-- what a value gives meets the limits of a program
pub limits_met : (value : Data) (version : Version) (tree : Tree) (initial : List ℕ) (threads : List (List Op))
    (turns : List (List (Option Turn))) → HasMember (codes "initial") (λ member. IsListOf IsKey member initial) value
    → length initial ≤ 12 → AllPairs (λ a b. a ≢ b) initial
    → HasThreads value threads → 1 ≤ length threads → length threads ≤ 4 → AreOpCounts (map length threads)
    → HasTurns version value turns → AreTurnsWithin threads turns
    → IsWithinLimits (record { tree = tree; initial = initial; threads = threads; turns = turns })
limits_met value version tree initial threads turns keys count distinct ops some bounded counts has within = record {
  initial =
      record {
        count = count;
        user_keys = Each-All IsKey IsUserKey (λ v key is. is.1) keys.2.0 initial keys.2.2;
        distinct = distinct;
      };
  some_thread = some;
  thread_count = bounded;
  op_counts = of_map_All (λ count. (1 ≤ count) × (count ≤ 6)) length threads counts.each;
  total = rw (← sum-map length threads) counts.total;
  op_keys =
      Each-All (IsListOf IsOp) (All (λ op. IsUserKey (key_of op)))
      (λ v ops list. Each-All IsOp (λ op. IsUserKey (key_of op)) (λ w op is. is.key.2.1) list.0 ops list.2) ops.2.0
      threads ops.2.2;
  turn_counts = same_counts value version threads turns ops has;
  turns = within;
}

-- a value whose keys are few and distinct passes the tests before those of its threads
pub passes_to_threads : (value : Data) (version : Version) (tree : Tree) (keys : List ℕ)
    → (members : Members) × (value ≡ object members) → HasVersion value version → HasTree value tree
    → HasMember (codes "initial") (λ member. IsListOf IsKey member keys) value → length keys ≤ 12
    → AllPairs (λ a b. a ≢ b) keys → (more : List ProgramFault) → AllByRecursion (Passes value) more
    → AllByRecursion (Passes value) (earlier fault.Threads ++ more)
passes_to_threads value version tree keys is of_version of_tree has bounded distinct more all =
    let initial : Passes value fault.Initial = (has.0, has.1, (keys, has.2, bounded)) in
    let twice : Passes value fault.InitialTwice = (has.0, has.1, (keys, has.2, distinct)) in
    (is, ((version, of_version), ((tree, of_tree), (initial, (twice, all)))))
