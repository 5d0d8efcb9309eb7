-- Histories: the operations of one more reply and of one more thread, and that the history of a state that fits a
-- program is a history of that program.
use Rattle.std.proofs.Common.{◌≡◌, ℕ, zero, suc, ◌+◌, inl, inr, Bool, true, false, List, [], ◌∷◌, ◌++◌, length, map}
use Rattle.std.proofs.Common.{Option, Some, IsSome, refl, sym, ◌∙◌, arith, slice_get, get_or, if◌then◌else◌, ◌<◌}
use Rattle.std.proofs.Common.{take, append_assoc, length-take-le, eq-eqb, append-nil}
use Rattle.std.proofs.lemmas.Option.{slice_get_within, get_or_from_slice_get, same_Some}
use Rattle.std.proofs.lemmas.List.{take_more, length-map, map-append}
use Rattle.std.proofs.lemmas.List.Elements.{All-append, All-cons, All-nil}
use Rattle.std.specs.List.{All}
use Rattle.sched_program.specs.declared.operation.Op.{Op}
use Rattle.sched_program.specs.declared.operation.OpId.{OpId}
use Rattle.sched_program.specs.Name.{same_name, value_at, Ascend}
use Rattle.sched_program.specs.History.{IsHistoryOf}
use Rattle.sched_program.specs.Program.{Program, op_at}
use Rattle.tree_machine.specs.History.{named, all_named}
use Rattle.tree_machine.specs.Rules.{Rules}
use Rattle.tree_machine.specs.Step.{ThreadFits, Fits}
use Rattle.tree_machine.specs.declared.state.Thread.{Thread}
use Rattle.tree_machine.specs.declared.state.State.{State}
use Rattle.tree_machine.proofs.Lists.{get-append_cases, get-map, map-get, get_at}

module _ {A : Type 0} where
  named-push : (thread index : ℕ) (xs : List A) (x : A) (last : ℕ) → last ≡ index + length xs
      → named thread index (xs ++ x ∷ []) ≡ named thread index xs ++ (record { thread = thread; index = last }, x) ∷ []
  named-push thread index [] x last is = let same : index ≡ last = omega arith in rw same
  named-push thread index (y ∷ ys) x last is = grind (arith, named-push thread (index + 1) ys x last (omega arith))

  all_named-push : (thread : ℕ) (all : List (List A)) (xs : List A) (last : ℕ) → last ≡ thread + length all
      → all_named thread (all ++ xs ∷ []) ≡ all_named thread all ++ named last 0 xs
  all_named-push thread [] xs last is = let same : thread ≡ last = omega arith in rw same (append-nil _)
  all_named-push thread (ys ∷ all) xs last is =
      grind (arith, append_assoc, all_named-push (thread + 1) all xs last (omega arith))

  -- one more operation
  pub one_more : (before : List (OpId × A)) {now next : List (OpId × A)} (thread index : ℕ) (xs : List A) {x : A}
      → slice_get xs index ≡ Some x → now ≡ before ++ named thread 0 (take index xs)
      → next ≡ now ++ (record { thread = thread; index = index }, x) ∷ []
      → next ≡ before ++ named thread 0 (take (index + 1) xs)
  one_more before thread index xs {x} at_x at_now at_next =
      let below = slice_get_within xs index x at_x in
      let last = named-push thread 0 (take index xs) x index
      (omega (arith, length-take-le index xs (omega arith))) in
      rw (at_next, at_now, take_more xs index x below, get_or_from_slice_get xs index x x at_x, last)
      (append_assoc before (named thread 0 (take index xs)) _)

  -- the operations of one more thread
  pub one_thread_more : {X : Type 0} (read : X → List A) {now next : List (OpId × A)} (threads : List X) {t : ℕ}
      {thread : X} → t < length threads → thread ≡ get_or threads t thread
      → now ≡ all_named 0 (map read (take t threads)) → next ≡ now ++ named t 0 (read thread)
      → next ≡ all_named 0 (map read (take (t + 1) threads))
  one_thread_more read threads {t} {thread} below is at_now at_next =
      let last = all_named-push 0 (map read (take t threads)) (read thread) t
      (omega (arith, length-map (take t threads) read, length-take-le t threads (omega arith))) in
      rw (at_next, at_now, take_more threads t thread below, ← is, map-append, last) refl

-- ---- the history of a state

module _ {A : Type 0} where
  -- what holds of each operation of a thread holds of all in its list
  named_all : (P : OpId × A → Type 0) (t i : ℕ) (xs : List A)
      → ((k j : ℕ) (x : A) → j ≡ i + k → slice_get xs k ≡ Some x → P (record { thread = t; index = j }, x))
      → All P (named t i xs)
  named_all P t i [] h = All-nil P
  named_all P t i (x ∷ xs) h =
      All-cons P _ _ (h 0 i x (omega arith) refl)
      (named_all P t (i + 1) xs (λ k j y e. h (suc k) j y (omega arith)))

  -- what holds of each operation of each thread holds of all in the list of all threads' operations
  all_named_all : (P : OpId × A → Type 0) (t : ℕ) (all : List (List A))
      → ((u v k : ℕ) (xs : List A) (x : A) → v ≡ t + u → slice_get all u ≡ Some xs → slice_get xs k ≡ Some x
      → P (record { thread = v; index = k }, x))
      → All P (all_named t all)
  all_named_all P t [] h = All-nil P
  all_named_all P t (xs ∷ all) h =
      All-append P (named t 0 xs) (all_named (t + 1) all)
      (named_all P t 0 xs (λ k j x e there.
      let same : j ≡ k = omega arith in h 0 t j xs x (omega arith) refl (rw same there)))
      (all_named_all P (t + 1) all (λ u v k ys x e. h (suc u) v k ys x (omega arith)))

  -- the names in a thread's list
  name_at : (t i : ℕ) (xs : List A) (k : ℕ) (e : OpId × A) → slice_get (named t i xs) k ≡ Some e
      → (e.0.thread ≡ t) × (e.0.index ≡ i + k)
  name_at t i [] k e h = cc
  name_at t i (x ∷ xs) zero e h = rw (← same_Some _ _ h) (refl, omega arith)
  name_at t i (x ∷ xs) (suc k) e h = let rest = name_at t (i + 1) xs k e h in (rest.0, omega (arith, rest.1))

  -- two neighbours are of one thread, or of two, or later in the list
  all_named_ascend : (t : ℕ) (all : List (List A)) → Ascend (all_named t all)
  all_named_ascend t [] = λ k a b at_a at_b. cc
  all_named_ascend t (xs ∷ all) = λ k a b at_a at_b.
      let more = all_named (t + 1) all in
      elim (get-append_cases (named t 0 xs) more k a at_a) [
        | inl l ↦
            let first = name_at t 0 xs k a l in
            elim (get-append_cases (named t 0 xs) more (k + 1) b at_b) [
              | inl m ↦
                  let second = name_at t 0 xs (k + 1) b m in
                  inr (first.0 ∙ sym second.0, omega (arith, first.1, second.1))
              | inr m ↦
                  let later = all_named_all (λ e. t < e.0.thread) (t + 1) all (λ u v k xs x e _ _. omega arith) m.0 b
                  (slice_get_within more m.0 b m.2) in
                  inl (omega (arith, first.0, rw (get_or_from_slice_get more m.0 b b m.2) at later))
            ]
        | inr r ↦ elim (get-append_cases (named t 0 xs) more (k + 1) b at_b) [
          | inl m ↦ absurd (omega (arith, r.1, slice_get_within (named t 0 xs) (k + 1) b m))
          | inr m ↦
              let e : m.0 ≡ r.0 + 1 = omega (arith, r.1, m.1) in
              all_named_ascend (t + 1) all r.0 a b r.2 (rw e at m.2)
        ]
      ]

  -- a name that is in a list has a value there
  value_or_later : (b : Bool) (v : A) (later : Option A) → IsSome later → IsSome (if b then Some v else later)
  value_or_later true v later h = refl
  value_or_later false v later h = h

  value_behind : (xs ys : List (OpId × A)) (a : OpId) → IsSome (value_at ys a) → IsSome (value_at (xs ++ ys) a)
  value_behind [] ys a h = h
  value_behind (x ∷ xs) ys a h = value_or_later (same_name x.0 a) x.1 _ (value_behind xs ys a h)

  value_named : (t i k : ℕ) (xs : List A) (rest : List (OpId × A)) (j : ℕ) → j ≡ i + k → k < length xs
      → IsSome (value_at (named t i xs ++ rest) (record { thread = t; index = j }))
  value_named t i k [] rest j e l = absurd (omega arith)
  value_named t i zero (x ∷ xs) rest j e l = rw (eq-eqb t t refl, eq-eqb i j (omega arith)) refl
  value_named t i (suc k) (x ∷ xs) rest j e l =
      value_or_later _ x _ (value_named t (i + 1) k xs rest j (omega arith) (omega arith))

  value_there : (t u v i : ℕ) (all : List (List A)) (xs : List A) → v ≡ t + u → slice_get all u ≡ Some xs
      → i < length xs → IsSome (value_at (all_named t all) (record { thread = v; index = i }))
  value_there t u v i [] xs e h l = cc
  value_there t zero v i (ys ∷ all) xs e h l =
      let same : v ≡ t = omega arith in
      rw (same, same_Some ys xs h) (value_named t 0 i xs (all_named (t + 1) all) i (omega arith) l)
  value_there t (suc u) v i (ys ∷ all) xs e h l =
      value_behind (named t 0 ys) _ _ (value_there (t + 1) u v i all xs (omega arith) h l)

module _ {Machine Memory Place Form : Type 0} (rules : Rules Memory Place) (program : Program)
    (state : State Machine Memory Place Form) (fits : Fits rules program state) where
  -- a thread that is there, with its operations
  pub with_ops : (u : ℕ) (thread : Thread Place) → slice_get state.threads u ≡ Some thread
      → (ops : List Op) × (slice_get program.threads u ≡ Some ops) × ThreadFits rules program state.memory ops thread
  with_ops u thread at_u =
      let there =
      get_at program.threads u (omega (arith, slice_get_within state.threads u thread at_u, fits.thread_count)) in
      (there.0, there.1, fits.threads u there.0 thread there.1 at_u)

  abbrev all_notes : List (List (List ℕ))
  all_notes = map (λ thread. thread.notes) state.threads

  abbrev all_replies : List (List Bool)
  all_replies = map (λ thread. thread.replies) state.threads

  -- each begun operation is there, and its note has a count for each thread
  begun_there : (u i : ℕ) (notes : List (List ℕ)) (note : List ℕ) → slice_get all_notes u ≡ Some notes
      → slice_get notes i ≡ Some note → IsSome (op_at program u i) × (length note ≡ length program.threads)
  begun_there u i notes note at_u at_i =
      let thread = get-map (λ thread. thread.notes) state.threads u notes at_u in
      let found = with_ops u thread.0 thread.1 in
      let there = rw thread.2 at at_i in
      let within = slice_get_within thread.0.notes i note there in
      let op = get_at found.0 i (omega (arith, within, found.2.begun)) in (
        rw (found.1, op.1) refl,
        rw (get_or_from_slice_get thread.0.notes i note note there) at (found.2.notes i note within),
      )

  -- each finished operation has begun
  reply_begun : (u v i : ℕ) (replies : List Bool) (reply : Bool) → v ≡ 0 + u → slice_get all_replies u ≡ Some replies
      → slice_get replies i ≡ Some reply
      → IsSome (value_at (all_named 0 all_notes) (record { thread = v; index = i }))
  reply_begun u v i replies reply e at_u at_i =
      let thread = get-map (λ thread. thread.replies) state.threads u replies at_u in
      let within = slice_get_within thread.0.replies i reply (rw thread.2 at at_i) in
      value_there 0 u v i all_notes thread.0.notes e
      (map-get (λ thread. thread.notes) state.threads u thread.0 thread.1)
      (omega (arith, within, (with_ops u thread.0 thread.1).2.replies))

  pub is_history : {begun : List (OpId × List ℕ)} {finished : List (OpId × Bool)} → begun ≡ all_named 0 all_notes
      → finished ≡ all_named 0 all_replies
      → IsHistoryOf program (record { begun = begun; finished = finished })
  is_history b f =
      rw (b, f) (record {
        names =
            all_named_all (λ e. IsSome (op_at program e.0.thread e.0.index)) 0 all_notes (λ u v i xs x e at_u at_i.
            let same : v ≡ u = omega arith in rw same (begun_there u i xs x at_u at_i).0);
        notes =
            all_named_all (λ e. length e.1 ≡ length program.threads) 0 all_notes
            (λ u v i xs x e at_u at_i. (begun_there u i xs x at_u at_i).1);
        begun_ascend = all_named_ascend 0 all_notes;
        finished_are_begun =
            all_named_all (λ e. IsSome (value_at (all_named 0 all_notes) e.0)) 0 all_replies reply_begun;
        finished_ascend = all_named_ascend 0 all_replies;
      })
