-- A linearization has no more operations than its program, and so twelve at most.
use Rattle.std.proofs.Common.{◌≡◌, ℕ, zero, suc, ◌+◌, ◌≤◌, true, true≢false, List, [], ◌∷◌, ◌++◌, length, map}
use Rattle.std.proofs.Common.{Some, IsSome, IfSome, All, slice_get, refl, sym, arith, length-append}
use Rattle.std.specs.Prelude.{option_and_then, sum_by}
use Rattle.std.specs.List.{list_any, range_with_len}
use Rattle.std.proofs.lemmas.Bool.{or_left, or_right}
use Rattle.std.proofs.lemmas.List.Elements.{All-nil, All-cons, All-contains}
use Rattle.std.proofs.lemmas.List.Folds.{list_any-append, list_any_at}
use Rattle.std.proofs.lemmas.List.FromFn.{length-map-range_with_len, get_or-map-range_with_len}
use Rattle.std.proofs.lemmas.List.Sums.{sum_by-cons}
use Rattle.std.proofs.lemmas.Map.Made.{length-le_from_is_member, IsDistinct-from_AllPairs}
use Rattle.sched_program.specs.declared.operation.OpId.{OpId}
use Rattle.sched_program.specs.declared.operation.Op.{Op}
use Rattle.sched_program.specs.Name.{same_name}
use Rattle.sched_program.specs.Program.{Program, IsWithinLimits, op_at}
use Rattle.sched_program.specs.History.{History, reply}
use Rattle.lin.specs.Keys.{Keys, keys_of, keys_after, reply_on}
use Rattle.lin.specs.Linearization.{GivesReplies, IsLinearization}
use Rattle.std.proofs.lemmas.Map.Views.{Contains-from_any}
use Rattle.std.proofs.lemmas.Option.{slice_get_within}
use Rattle.lin.proofs.Lists.{IsSome-value, IsSomeAnd-value}
use Rattle.lin.proofs.Names.{same_name_self, same_name-is, same_name_laws}

-- the names of the operations of these threads, of which the first has this number
abbrev names_from : ℕ → List (List Op) → List OpId
names_from t [] = []
names_from t (ops ∷ rest) =
    map (λ i. record { thread = t; index = i }) (range_with_len 0 (length ops)) ++ names_from (suc t) rest

names_count : (t : ℕ) (threads : List (List Op)) → length (names_from t threads) ≡ sum_by length threads
names_count t [] = refl
names_count t (ops ∷ rest) =
    rw (length-append, length-map-range_with_len) (omega (arith, names_count (suc t) rest, sum_by-cons length ops rest))

is_named : (s t : ℕ) (threads : List (List Op)) (a : OpId) → a.thread ≡ s + t
    → IsSome (option_and_then (λ ops. slice_get ops a.index) (slice_get threads t))
    → list_any (same_name a) (names_from s threads) ≡ true
is_named s t [] a e h = absurd (true≢false (sym h))
is_named s zero (ops ∷ rest) a e h =
    let name : ℕ → OpId = λ i. record { thread = s; index = i } in
    let (o, found) = IsSome-value (slice_get ops a.index) h in
    let below = slice_get_within ops a.index o found in
    let thread : a.thread ≡ s = omega arith in
    rw list_any-append (or_left _ _ (list_any_at (same_name a) (map name (range_with_len 0 (length ops))) a.index a
    (omega (arith, length-map-range_with_len name 0 (length ops)))
    (rw (get_or-map-range_with_len name 0 (length ops) a.index a.index a below (omega arith), ← thread)
    (same_name_self a))))
is_named s (suc t) (ops ∷ rest) a e h =
    rw list_any-append (or_right _ _ (is_named (suc s) t rest a (omega arith) h))

module _ (program : Program) where
  -- the operation with which an order begins that gives the replies
  pub first_given : (history : History) (keys : Keys) (a : OpId) (rest : List OpId)
      → GivesReplies program history keys (a ∷ rest)
      → (o : Op) × (op_at program a.thread a.index ≡ Some o)
      × (IfSome (reply history a) (λ r. r ≡ reply_on o keys) × GivesReplies program history (keys_after o keys) rest)
  first_given history keys a rest given = IsSomeAnd-value (op_at program a.thread a.index) _ given

  -- what holds of each operation of the program holds of all in an order that gives the replies
  pub all_given : (P : OpId → Type 0) → ((a : OpId) (o : Op) → op_at program a.thread a.index ≡ Some o → P a)
      → (history : History) (keys : Keys) (order : List OpId) → GivesReplies program history keys order → All P order
  all_given P each history keys [] given = All-nil P
  all_given P each history keys (a ∷ rest) given =
      let op = first_given history keys a rest given in
      All-cons P a rest (each a op.0 op.1) (all_given P each history (keys_after op.0 keys) rest op.2.1)

  pub at_most_twelve : IsWithinLimits program → (history : History) (order : List OpId)
      → IsLinearization program history order → length order ≤ 12
  at_most_twelve limits history order is =
      let names = names_from 0 program.threads in
      let named = all_given (λ a. list_any (same_name a) names ≡ true)
      (λ a o e. is_named 0 a.thread program.threads a (omega arith) (rw e refl)) history (keys_of program.initial)
      order is.replies in
      let distinct =
      IsDistinct-from_AllPairs (λ a b. (same_name-is a b, λ e. rw e (same_name_self b))) order is.distinct in
      let fewer : length order ≤ length names =
      length-le_from_is_member same_name_laws order names distinct
      (λ a among. All-contains (λ b. list_any (same_name b) names ≡ true) order a named
      (Contains-from_any same_name-is a order among)) in
      omega (arith, limits.total, names_count 0 program.threads)
