-- What is in the table of a history.
use Rattle.std.proofs.Common.{◌≡◌, ◌≢◌, ℕ, ◌+◌, ◌-◌, ◌<◌, ◌≤◌, ◌&&◌, ◌||◌, Bool, true, eqb, ltb}
use Rattle.std.proofs.Common.{List, [], length, get_or, set, take, drop}
use Rattle.std.proofs.Common.{All, Option, Some, None, IsSome, IsSomeAnd, ◌↔◌, IfSome, sym, ◌∙◌, ap, arith}
use Rattle.std.proofs.Common.{true≢false, inl, inr}
use Rattle.std.specs.Prelude.{slice_index}
use Rattle.std.proofs.lemmas.List.{get_or_default, get_or_past, get_or-set_other, drop_more, take_more}
use Rattle.std.proofs.lemmas.Grind.{get_or-set_at}
use Rattle.std.proofs.lemmas.Bool.{cases_Bool}
use Rattle.std.proofs.lemmas.Bool.Decides.{nat_tests}
use mathlib.Core.Path.{fun_ext}
use Rattle.sched_program.specs.declared.operation.OpId.{OpId}
use Rattle.lin.specs.Completion.{Listed, listed_in, with_name}
use Rattle.sched_program.specs.Name.{same_name, value_at}
use Rattle.lin.specs.Timeline.{HasPlace, place_of, counted, AreSetsBefore, finished_in}
use Rattle.sched_program.specs.History.{History, IsHistory, IsBegun, EndedBefore}
use Rattle.lin.specs.OpSet.{operations_in}
use Rattle.lin.specs.declared.op_set.OpSet.{OpSet}
use Rattle.lin.proofs.Names.{each_named, is_some_push, places_differ, same_name-is}

-- the operations of the first threads that a note counts
abbrev pub counted_before : List ℕ → ℕ → Listed
counted_before note i = λ a. ltb a.index 8 && (ltb a.thread i && ltb a.index (slice_index note a.thread))

module _ (note : List ℕ) where
  pub counted_none : listed_in [] ≡ counted_before note 0
  counted_none = fun_ext (λ a. grind (arith, nat_tests))

  -- one more thread is counted
  pub counted_more : (i d : ℕ) → i < length note → (next : Listed)
      → next ≡ (λ a. ltb a.index 8 && (eqb a.thread i && ltb a.index (get_or note i d)))
      → (λ a. counted_before note i a || next a) ≡ counted_before note (i + 1)
  counted_more i d within next e =
      let at : (t : ℕ) → t ≡ i → slice_index note t ≡ get_or note i d =
      λ t same. rw same (sym (get_or_default note i d 0 within)) in
      rw e (fun_ext (λ a. let here = at a.thread in grind (arith, nat_tests, here)))

  -- once all are counted
  pub counted_all : (i : ℕ) → length note ≤ i → counted_before note i ≡ counted note
  counted_all i over = fun_ext (λ a. grind (arith, nat_tests, get_or_past note a.thread 0))

-- what holds of the value beside each name and of what is at its place
module _ {V T : Type 0} (P : Option V → T → Type 0) where
  abbrev pub HoldsAtPlaces : List (OpId × V) → List T → Type 0
  HoldsAtPlaces entries table = (a : OpId) (d : T) → HasPlace a → P (value_at entries a) (get_or table (place_of a) d)

  -- holds with the entry before those that are left of a list, once the table has its value
  pub holds_before : (entries : List (OpId × V)) (i : ℕ) (x d : OpId × V) (table : List T) (place : ℕ) (t : T) → 0 < i
      → i ≤ length entries → x ≡ get_or entries (i - 1) d
      → HasPlace x.0 → place ≡ place_of x.0 → place < length table → P (Some x.1) t
      → HoldsAtPlaces (drop i entries) table → HoldsAtPlaces (drop (i - 1) entries) (set table place t)
  holds_before entries i x d table place t some within is has e in_table here before =
      let next : i - 1 + 1 ≡ i = omega arith in
      rw (drop_more entries (i - 1) d (omega arith), ← is, next) (λ a b has_a. elim (cases_Bool (same_name x.0 a)) [
        | inl same ↦
            let at : place_of a ≡ place = rw (← same_name-is x.0 a same) (sym e) in
            rw (same, get_or-set_at table place (place_of a) t b at in_table) here
        | inr differs ↦
            let other : place_of a ≢ place = λ at. places_differ x.0 a has.1 has_a.1 differs (at ∙ e) in
            rw (differs, get_or-set_other table place (place_of a) t b other) (before a b has_a)
      ])

-- the operations of a history have places: those that began, and so those that are finished
module _ (history : History) (events : IsHistory history) where
  pub begun_placed : All (λ e. HasPlace e.0) history.begun
  begun_placed i d within = let small = events.names i d within in (small.0, omega (arith, small.1))

  pub finished_placed : All (λ e. HasPlace e.0) history.finished
  finished_placed i d within =
      each_named HasPlace history.begun _ begun_placed (events.finished_are_begun i d within)

-- one more entry is among the finished ones
pub finished_more : (items : List (OpId × Bool)) (i : ℕ) (d : OpId × Bool) → i < length items
    → with_name (finished_in (take i items)) (get_or items i d).0 ≡ finished_in (take (i + 1) items)
finished_more items i d within =
    rw (take_more items i d within) (fun_ext (λ a. sym (is_some_push (take i items) (get_or items i d) a)))

says : (o : Option (List ℕ)) (set : OpSet) → IsSome o → IfSome o (λ note. operations_in set ≡ counted note) → (a : OpId)
    → HasPlace a
    → (operations_in set a ≡ true) ↔ IsSomeAnd o (λ note. a.index < slice_index note a.thread)
says None set some is a has = absurd (true≢false (sym some))
says (Some note) set some is a has =
    let at : operations_in set a ≡ (ltb a.index 8 && ltb a.index (slice_index note a.thread)) = ap (λ f. f a) is in
    let short : a.index < 8 = has.1 in
    (λ yes. grind (arith, nat_tests, at), λ less. grind (arith, nat_tests, at))

-- what is at the place of an operation that began
pub set_says : (history : History) (sets : List OpSet) → AreSetsBefore history.begun sets → (name : OpId)
    → IsBegun history name → HasPlace name → (k : ℕ) (d : OpSet) → k ≡ place_of name → (a : OpId) → HasPlace a
    → (operations_in (get_or sets k d) a ≡ true) ↔ EndedBefore history a name
set_says history sets are name begun has k d e =
    says (value_at history.begun name) (get_or sets k d) begun
    (rw e (are name d has))
