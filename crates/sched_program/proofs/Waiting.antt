-- What the operations of a text wait for, and where that is not within the limits.
use Rattle.std.proofs.Common.{◌≡◌, ℕ, ◌<◌, ◌≤◌, List, [], length, get_or, slice_get, arith, sym}
use Rattle.std.proofs.Common.{ap, ◌∙◌, Option, Some, None, IfSome, IfNone, Result, Ok, IfOk, All, codes}
use Rattle.std.proofs.lemmas.Option.{same_Some, slice_get_within, get_or_from_slice_get}
use Rattle.std.proofs.lemmas.Bool.{cases_lt}
use Rattle.std.proofs.lemmas.List.{get_or_default, get_or_past}
use Rattle.serde_json.specs.Find.{get, as_array}
use Rattle.serde_json.specs.Data.{Data}
use Rattle.serde_json.specs.View.{items_view}
use Rattle.serde_json.specs.declared.value.Value.{Value}
use Rattle.sched_program.specs.declared.operation.Op.{Op}
use Rattle.sched_program.specs.declared.operation.Turn.{Turn}
use Rattle.sched_program.specs.declared.version.Version.{Version}
use Rattle.sched_program.specs.Program.{IsTurnWithin, AreTurnsWithin}
use Rattle.sched_program.specs.Text.{IsListOf, HasVersion, HasThreads, HasTurn, HasTurns, IsTurn}
use Rattle.sched_program.specs.Faults.{item_count, HasTurnsWithin}
use Rattle.sched_program.proofs.Values.{items_view_count, of_member}
use Rattle.sched_program.proofs.Texts.{same_threads, same_turns, same_version}

-- a turn is a list of two
pub two_numbers : (value : Data) (values : List Value) (turn : Turn) → Some (items_view values) ≡ as_array value
    → IsTurn value turn → length values ≡ 2
two_numbers value values turn is also =
    sym (items_view_count values) ∙ ap item_count (same_Some (items_view values) _ (is ∙ ap as_array also))

module _ (value : Data) (version : Version) (threads : List (List Op)) (of_version : HasVersion value version)
    (has : HasThreads value threads) where
  -- turns that are nowhere within the limits
  pub nowhere_within : ((turns : List (List (Option Turn))) → HasTurns version value turns
      → ¬ AreTurnsWithin threads turns) → ¬ HasTurnsWithin value
  nowhere_within none (other, ops, turns, of_other, has_ops, has_turns, within) =
      none turns (rw (same_version value other version of_other of_version) at has_turns)
      (rw (same_threads value ops threads has_ops has) at within)

  -- turns that are not within the limits
  pub not_within : (turns : List (List (Option Turn))) → HasTurns version value turns → ¬ AreTurnsWithin threads turns
      → ¬ HasTurnsWithin value
  not_within turns are not =
      nowhere_within (λ others also within. not (rw (same_turns version value others turns also are) at within))

-- where the member with the threads is no list of turns, the value has none
pub unlisted : {Refusal : Type 0} (version known : Version) (value threads : Data)
    (answer : Result (Option (List (List (Option Turn)))) Refusal) → version ≡ known
    → Some threads ≡ get (codes "threads") value
    → IfOk answer (λ found. IfNone found ((turns : List (List (Option Turn)))
    → ¬ IsListOf (IsListOf (HasTurn known)) threads turns))
    → IfOk answer (λ found. IfNone found ((turns : List (List (Option Turn))) → ¬ HasTurns version value turns))
unlisted version known value threads (Ok None) is at none = λ turns has. none turns
    (of_member (λ member. IsListOf (IsListOf (HasTurn known)) member turns) (codes "threads") value threads at
    (rw is at has))
unlisted version known value threads answer is at none = tt

ops_bounded : (threads : List (List Op)) (k : ℕ) → All (λ ops. (1 ≤ length ops) × (length ops ≤ 6)) threads
    → length (get_or threads k []) ≤ 6
ops_bounded threads k all = grind (arith, cases_lt k (length threads), get_or_past threads k [], all k [])

-- the numbers of a turn are small
pub small_turn : (threads : List (List Op)) (turns : List (List (Option Turn))) (t i : ℕ) (row : List (Option Turn))
    (turn : Turn) → All (λ ops. (1 ≤ length ops) × (length ops ≤ 6)) threads → AreTurnsWithin threads turns
    → slice_get turns t ≡ Some row → slice_get row i ≡ Some (Some turn) → (turn.thread < t) × (turn.count ≤ 6)
small_turn threads turns t i row turn counts within at_t at_i =
    let all = rw (get_or_from_slice_get turns t row [] at_t) at (within t) in
    let is : IsTurnWithin threads t turn =
    rw (get_or_from_slice_get row i (Some turn) None at_i) at (all i None (slice_get_within row i (Some turn) at_i)) in
    (is.lower, omega (arith, is.bounded, ops_bounded threads turn.thread counts))

-- each turn of a row at its place is within the limits
pub row_at : (threads : List (List Op)) (turns : List (List (Option Turn))) (t : ℕ) (row : List (Option Turn))
    → t < length turns → row ≡ get_or turns t row → AreTurnsWithin threads turns
    → All (λ turn. IfSome turn (IsTurnWithin threads t)) row
row_at threads turns t row below at within =
    rw (get_or_default turns t [] row below, ← at) at (within t)
