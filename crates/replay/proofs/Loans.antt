-- An order that a state lends to a step that ended no operation.
use Rattle.std.proofs.Common.{◌≡◌, ℕ, zero, suc, ◌+◌, ◌<◌, ◌≢◌, Bool, Option, Some}
use Rattle.std.proofs.Common.{None, IsSome, List, [], ◌∷◌, ◌++◌, length, refl, sym, ap, ◌∙◌, arith, slice_get}
use Rattle.std.proofs.Common.{inl, inr, slice_set, get_or, append-nil, eq-eqb}
use Rattle.std.specs.Prelude.{IfSome, option_and_then}
use Rattle.std.specs.Option.{option_or}
use Rattle.std.proofs.lemmas.Option.{get_or_from_slice_get, slice_get_within}
use Rattle.std.proofs.lemmas.Bool.{cases_Bool, cases_eq, ne_eqb}
use Rattle.sched_program.specs.Program.{Program, op_at}
use Rattle.sched_program.specs.Name.{same_name, value_at}
use Rattle.sched_program.specs.History.{History, reply}
use Rattle.sched_program.specs.declared.operation.OpId.{OpId}
use Rattle.lin.specs.Keys.{Keys, keys_of, keys_after, reply_on}
use Rattle.lin.specs.Linearization.{IsLinearization, GivesReplies}
use Rattle.lin.proofs.Lists.{IsSome-value, IsSomeAnd-value, IsSomeAnd-of}
use Rattle.tree_machine.specs.Rules.{Rules}
use Rattle.tree_machine.specs.History.{named, all_named, history_of}
use Rattle.tree_machine.specs.Step.{step, after_access, at_step, notes_at_step, finished_counts, place_or}
use Rattle.tree_machine.specs.declared.machine.Outcome.{Outcome}
use Rattle.tree_machine.specs.declared.machine.Outcome.TheVariants.{Goes, Replies, Astray}
use Rattle.tree_machine.specs.declared.state.Thread.{Thread}
use Rattle.tree_machine.specs.declared.state.State.{State}
use Rattle.tree_machine.proofs.Lists.{get-append_left, get-set_other, get-set_same, map-get}
use Rattle.tree_machine.specs.Alike.{notes_of, replies_of}
use Rattle.std.specs.Option.{option_to_list}
use Rattle.std.proofs.lemmas.List.{map-set}
use Rattle.std.proofs.Math.Seq.{map-set_same}
use Rattle.tree_machine.proofs.States.{step_parts}

-- ---- values beside names
abbrev pub value_in : {V : Type 0} → List (List V) → ℕ → ℕ → Option V
value_in all t i = option_and_then (λ xs. slice_get xs i) (slice_get all t)

abbrev pub name : ℕ → ℕ → OpId
name t i = record { thread = t; index = i }

or_none : {V : Type 0} (o : Option V) → option_or o None ≡ o
or_none None = refl
or_none (Some v) = refl

module _ {V : Type 0} where
  value_at-append : (xs ys : List (OpId × V)) (a : OpId)
      → value_at (xs ++ ys) a ≡ option_or (value_at xs a) (value_at ys a)
  value_at-append [] ys a = refl
  value_at-append (x ∷ xs) ys a = elim (cases_Bool (same_name x.0 a)) [
    | inl t ↦ rw t refl
    | inr f ↦ rw f (value_at-append xs ys a)
  ]

  -- the names of a thread's operations are no other thread's
  named_apart : (t i : ℕ) (xs : List V) (u j : ℕ) → u ≢ t → value_at (named t i xs) (name u j) ≡ None
  named_apart t i [] u j apart = refl
  named_apart t i (x ∷ xs) u j apart =
      rw (ne_eqb t u (λ e. apart (sym e))) (named_apart t (i + 1) xs u j apart)

  all_apart : (t : ℕ) (all : List (List V)) (u j : ℕ) → u < t → value_at (all_named t all) (name u j) ≡ None
  all_apart t [] u j below = refl
  all_apart t (xs ∷ all) u j below =
      rw (
        value_at-append (named t 0 xs) (all_named (t + 1) all) (name u j),
        named_apart t 0 xs u j (λ (e : u ≡ t). omega arith),
      )
      (all_apart (t + 1) all u j (omega arith))

  -- the value beside a name is that of its thread's list at its index
  value_named : (t i k j : ℕ) (xs : List V) → j ≡ i + k → value_at (named t i xs) (name t j) ≡ slice_get xs k
  value_named t i k j [] is = refl
  value_named t i zero j (x ∷ xs) is =
      rw (eq-eqb t t refl, eq-eqb i j (omega arith)) refl
  value_named t i (suc k) j (x ∷ xs) is =
      rw (eq-eqb t t refl, ne_eqb i j (λ (e : i ≡ j). omega arith)) (value_named t (i + 1) k j xs (omega arith))

  value_all : (t u s i : ℕ) (all : List (List V)) → s ≡ t + u
      → value_at (all_named t all) (name s i) ≡ value_in all u i
  value_all t u s i [] is = refl
  value_all t zero s i (xs ∷ all) is =
      let same : s ≡ t = omega arith in
      rw (
        same,
        value_at-append (named t 0 xs),
        value_named t 0 i i xs (omega arith),
        all_apart (t + 1) all t i (omega arith),
      )
      (or_none (slice_get xs i))
  value_all t (suc u) s i (xs ∷ all) is =
      rw (value_at-append (named t 0 xs), named_apart t 0 xs s i (λ (e : s ≡ t). omega arith))
      (value_all (t + 1) u s i all (omega arith))

  pub value_from_start : (u i : ℕ) (all : List (List V)) → value_at (all_named 0 all) (name u i) ≡ value_in all u i
  value_from_start u i all = value_all 0 u u i all (omega arith)

  -- what has a value still has it once one thread's list is longer
  grown_stated : (all : List (List V)) (u i j : ℕ) (xs more : List V) (v : V) → slice_get all u ≡ Some xs
      → value_in all i j ≡ Some v → value_in (slice_set all u (xs ++ more)) i j ≡ Some v
  grown_stated all u i j xs more v at h = elim (cases_eq i u) [
    | inl e ↦ rw (e, get-set_same all u (xs ++ more) (slice_get_within all u xs at))
        (get-append_left xs more j v (rw (e, at) at h))
    | inr ne ↦ rw (get-set_other all u i (xs ++ more) ne) h
  ]

  pub grown_value : (all : List (List V)) (u : ℕ) (xs more : List V) (a : OpId) (v : V) → slice_get all u ≡ Some xs
      → value_at (all_named 0 all) a ≡ Some v → value_at (all_named 0 (slice_set all u (xs ++ more))) a ≡ Some v
  grown_value all u xs more a v at h =
      rw (value_from_start a.thread a.index (slice_set all u (xs ++ more)))
      (grown_stated all u a.thread a.index xs more v at (rw (value_from_start a.thread a.index all) at h))

-- the value that is appended, or none, stands behind the others
pub pushed_there : {X : Type 0} (xs : List X) (o : Option X) → slice_get (xs ++ option_to_list o) (length xs) ≡ o
pushed_there [] None = refl
pushed_there [] (Some x) = refl
pushed_there (y ∷ xs) o = pushed_there xs o

-- ---- a linearization of one history is one of another, with the same replies, that knows what the first knows of what
-- began
module _ (program : Program) (old new : History) (finished : new.finished ≡ old.finished)
    (begun : (a : OpId) (note : List ℕ) → value_at old.begun a ≡ Some note → value_at new.begun a ≡ Some note) where
  gives_still : (keys : Keys) (order : List OpId) → GivesReplies program old keys order
      → GivesReplies program new keys order
  gives_still keys [] h = tt
  gives_still keys (a ∷ rest) h =
      let some = IsSomeAnd-value (op_at program a.thread a.index) _ h in
      IsSomeAnd-of (op_at program a.thread a.index)
      (λ o. IfSome (reply new a) (λ r. r ≡ reply_on o keys) × GivesReplies program new (keys_after o keys) rest)
      some.0 some.1
      (rw finished some.2.0, gives_still (keys_after some.0 keys) rest some.2.1)

  pub lends : (order : List OpId) → IsLinearization program old order → IsLinearization program new order
  lends order is = record {
    begun = (λ k d less. let b = IsSome-value _ (is.begun k d less) in rw (begun (get_or order k d) b.0 b.1) refl);
    distinct = is.distinct;
    complete = (λ a h. is.complete a (rw (← finished) h));
    in_time = (λ i j a b at_i at_j before.
        let began = rw (get_or_from_slice_get order j b b at_j) at (is.begun j b (slice_get_within order j b at_j)) in
        let note = IsSome-value _ began in
        is.in_time i j a b at_i at_j (rw (begun b note.0 note.1 ∙ sym note.1) at before));
    replies = gives_still (keys_of program.initial) order is.replies;
  }

-- ---- a step
-- thread t has become this one, with what it replied, and no note fewer
pub record HasGone {Place : Type 0} (old : List (Thread Place)) (t : ℕ) (thread : Thread Place)
    (new : List (Thread Place)) : Type 0 where
  pub now : Thread Place
  pub threads : new ≡ slice_set old t now
  pub said : Option Bool
  pub replies : now.replies ≡ thread.replies ++ option_to_list said
  pub place : IsSome said → now.place ≡ None
  pub more : List (List ℕ)
  pub notes : now.notes ≡ thread.notes ++ more

more_notes : {Place : Type 0} (place : Option Place) (notes : List (List ℕ)) (counts : List ℕ)
    → (more : List (List ℕ)) × (notes_at_step place notes counts ≡ notes ++ more)
more_notes (Some place) notes counts = ([], sym (append-nil notes))
more_notes None notes counts = (counts ∷ [], refl)

module _ {Machine Memory Place Form : Type 0} (state : State Machine Memory Place Form) (t : ℕ)
    (thread begun : Thread Place) (replies : begun.replies ≡ thread.replies)
    (noted : (more : List (List ℕ)) × (begun.notes ≡ thread.notes ++ more)) where
  gone_to : (now : Thread Place) (said : Option Bool) → now.replies ≡ begun.replies ++ option_to_list said
      → now.notes ≡ begun.notes → (IsSome said → now.place ≡ None)
      → HasGone state.threads t thread (slice_set state.threads t now)
  gone_to now said longer same place = record {
    now = now;
    threads = refl;
    said = said;
    replies = rw (← replies) longer;
    place = place;
    more = noted.0;
    notes = same ∙ noted.1;
  }

  has_gone : (acted : Memory × Outcome Place)
      → HasGone state.threads t thread (after_access state t begun acted).threads
  has_gone (memory, Goes place) =
      gone_to (record begun { place = Some place }) None (sym (append-nil begun.replies)) refl
      (λ some. cc)
  has_gone (memory, Replies reply) =
      gone_to (record begun { replies = begun.replies ++ reply ∷ []; place = None }) (Some reply) refl refl (λ _. refl)
  has_gone (memory, Astray) =
      gone_to begun None (sym (append-nil begun.replies)) refl (λ some. cc)

-- what a step makes of its thread
pub step_gone : {Machine Memory Place Form : Type 0} (rules : Rules Memory Place) (program : Program)
    (state next : State Machine Memory Place Form) (t : ℕ) → step rules program state t ≡ Some next
    → (thread : Thread Place) × (slice_get state.threads t ≡ Some thread)
    × HasGone state.threads t thread next.threads
step_gone rules program state next t leads =
    step_parts rules program _ state next t leads (λ thread there op op_is made. (
      thread,
      there,
      rw made (has_gone state t thread (at_step rules state op thread) refl
          (more_notes thread.place thread.notes (finished_counts state.threads))
          (rules.act op (place_or thread.place (rules.first op)) state.memory)),
    ))

module _ {Place : Type 0} (old new : List (Thread Place)) (t : ℕ) (thread : Thread Place)
    (there : slice_get old t ≡ Some thread) (gone : HasGone old t thread new) where
  -- what stands at the thread afterwards
  pub now_there : slice_get new t ≡ Some gone.now
  now_there = rw gone.threads (get-set_same old t gone.now (slice_get_within old t thread there))

  -- what the thread now has behind its replies
  pub stated : slice_get gone.now.replies (length thread.replies) ≡ gone.said
  stated = rw gone.replies (pushed_there thread.replies gone.said)

  -- the replies have grown by what it said
  pub replies_now : replies_of new ≡ slice_set (replies_of old) t (thread.replies ++ option_to_list gone.said)
  replies_now = rw (gone.threads, map-set (λ (x : Thread Place). x.replies) old t gone.now, gone.replies) refl

  same_replies : gone.said ≡ None → replies_of new ≡ replies_of old
  same_replies none =
      rw gone.threads (map-set_same (λ (x : Thread Place). x.replies) old t gone.now thread
      (rw (get_or_from_slice_get old t thread thread there, gone.replies, none) (append-nil thread.replies)))

  -- what was noted is noted still
  pub notes_still : (a : OpId) (note : List ℕ) → value_at (all_named 0 (notes_of old)) a ≡ Some note
      → value_at (all_named 0 (notes_of new)) a ≡ Some note
  notes_still a note h =
      rw (gone.threads, map-set (λ (x : Thread Place). x.notes) old t gone.now, gone.notes)
      (grown_value (notes_of old) t thread.notes gone.more a note
      (map-get (λ (x : Thread Place). x.notes) old t thread there) h)

-- a linearization before a step that ended no operation is one after it
pub step_silent : {Machine Memory Place Form : Type 0} (rules : Rules Memory Place) (program : Program)
    (state next : State Machine Memory Place Form) (t : ℕ) → step rules program state t ≡ Some next
    → ((a b : Thread Place) → slice_get state.threads t ≡ Some a → slice_get next.threads t ≡ Some b
    → slice_get b.replies (length a.replies) ≡ None)
    → (order : List OpId) → IsLinearization program (history_of state) order
    → IsLinearization program (history_of next) order
step_silent rules program state next t leads none =
    let s = step_gone rules program state next t leads in
    let now = now_there state.threads next.threads t s.0 s.1 s.2 in
    let silent = sym (stated state.threads next.threads t s.0 s.1 s.2) ∙ none s.0 s.2.now s.1 now in
    lends program (history_of state) (history_of next)
    (ap (all_named 0) (same_replies state.threads next.threads t s.0 s.1 s.2 silent))
    (notes_still state.threads next.threads t s.0 s.1 s.2)
