-- A table of a history: for each operation of four threads of eight operations a place.
use Rattle.std.specs.Prelude.{◌≡◌, ℕ, ◌+◌, ◌*◌, ◌<◌, ◌&&◌, Bool, nat_lt, List, Option, IfSome, slice_index}
use Rattle.std.specs.Prelude.{slice_index_or}
use Rattle.std.specs.Option.{is_some}
use Rattle.sched_program.specs.declared.operation.OpId.{OpId}
use Rattle.sched_program.specs.Name.{value_at}
use Rattle.sched_program.specs.History.{History, IsHistory}
use Rattle.lin.specs.Completion.{Listed}
use Rattle.lin.specs.OpSet.{operations_in}
use Rattle.lin.specs.declared.op_set.OpSet.{OpSet}

abbrev pub HasPlace : OpId → Type 0
HasPlace a = (a.thread < 4) × (a.index < 8)

abbrev pub place_of : OpId → ℕ
place_of a = 8 * a.thread + a.index

-- the operations that a note counts, of the first eight of a thread
abbrev pub counted : List ℕ → Listed
counted note = λ a. nat_lt a.index 8 && nat_lt a.index (slice_index note a.thread)

-- at the place of each operation that began, the operations that ended before
abbrev pub AreSetsBefore : List (OpId × List ℕ) → List OpSet → Type 0
AreSetsBefore begun sets = (a : OpId) (d : OpSet) → HasPlace a
    → IfSome (value_at begun a) (λ note. operations_in (slice_index_or sets (place_of a) d) ≡ counted note)

-- at the place of each operation its reply, if it is finished
abbrev pub AreReplies : List (OpId × Bool) → List (Option Bool) → Type 0
AreReplies finished replies = (a : OpId) (d : Option Bool) → HasPlace a
    → slice_index_or replies (place_of a) d ≡ value_at finished a

-- the finished operations
abbrev pub finished_in : List (OpId × Bool) → Listed
finished_in finished = λ a. is_some (value_at finished a)

-- the three pieces of the table of a history
pub record IsTable (history : History) (sets : List OpSet) (stated : List (Option Bool)) (ended : OpSet) : Type 0 where
  pub events : IsHistory history
  pub before : AreSetsBefore history.begun sets
  pub replies : AreReplies history.finished stated
  pub finished : operations_in ended ≡ finished_in history.finished
