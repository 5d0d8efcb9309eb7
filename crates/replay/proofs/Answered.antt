-- An order that a state lends to a step that ended an operation.
use Rattle.std.proofs.Common.{◌≡◌, ◌≢◌, ℕ, zero, suc, ◌<◌, ◌≤◌, Bool}
use Rattle.std.proofs.Common.{Some, All, List, [], ◌∷◌, ◌++◌, length, refl, sym, ap, ap₂}
use Rattle.std.proofs.Common.{◌∙◌, inl, inr, arith, slice_get, slice_set}
use Rattle.std.specs.Prelude.{slice_index}
use Rattle.std.proofs.lemmas.Bool.{cases_eq}
use Rattle.std.proofs.lemmas.List.Elements.{All-contains}
use Rattle.std.proofs.lemmas.Option.{slice_get_within}
use Rattle.std.proofs.lemmas.Option.{option_and_then_some}
use Rattle.lin.proofs.Lists.{Contains-slice_get, IsSomeAnd-value}
use Rattle.std.proofs.lemmas.List.{length_push}
use Rattle.sched_program.specs.Program.{Program}
use Rattle.sched_program.specs.History.{IsBegun, EndedBefore}
use Rattle.sched_program.specs.declared.operation.OpId.{OpId}
use Rattle.lin.specs.Reply.{HasReplied}
use Rattle.tree_machine.specs.Rules.{Rules}
use Rattle.tree_machine.specs.History.{history_of}
use Rattle.tree_machine.specs.Step.{step}
use Rattle.tree_machine.specs.Step.{Fits}
use Rattle.tree_machine.specs.declared.state.Thread.{Thread}
use Rattle.tree_machine.specs.declared.state.State.{State}
use Rattle.tree_machine.specs.Alike.{notes_of, replies_of}
use Rattle.tree_machine.proofs.Lists.{get-set_other, get-map, get-set_same, get_at, map-get}
use Rattle.replay.proofs.Loans.{value_in, name, value_from_start, pushed_there, step_gone, HasGone, now_there, stated}
use Rattle.replay.proofs.Loans.{replies_now, notes_still}

-- ---- lists
pushed_elsewhere : {X : Type 0} (xs : List X) (x : X) (i : ℕ) → i ≢ length xs
    → slice_get (xs ++ x ∷ []) i ≡ slice_get xs i
pushed_elsewhere [] x zero apart = absurd (apart refl)
pushed_elsewhere [] x (suc i) apart = refl
pushed_elsewhere (y ∷ xs) x zero apart = refl
pushed_elsewhere (y ∷ xs) x (suc i) apart = pushed_elsewhere xs x i (λ e. apart (ap suc e))

all_get : {X : Type 0} (P : X → Type 0) (xs : List X) (i : ℕ) (x : X) → All P xs → slice_get xs i ≡ Some x → P x
all_get P xs i x every at = All-contains P xs x every (Contains-slice_get xs i x at)

module _ {V : Type 0} (all : List (List V)) (t : ℕ) (xs : List V) (x : V) (there : slice_get all t ≡ Some xs) where
  -- one thread's list has one value more
  longer_there : slice_get (slice_set all t (xs ++ x ∷ [])) t ≡ Some (xs ++ x ∷ [])
  longer_there = get-set_same all t (xs ++ x ∷ []) (slice_get_within all t xs there)

  grown_here : value_in (slice_set all t (xs ++ x ∷ [])) t (length xs) ≡ Some x
  grown_here = rw longer_there (pushed_there xs (Some x))

  grown_elsewhere : (u i : ℕ) → name t (length xs) ≢ name u i
      → value_in (slice_set all t (xs ++ x ∷ [])) u i ≡ value_in all u i
  grown_elsewhere u i apart =
      elim (cases_eq u t) [
        | inl same ↦ rw (same, longer_there, there)
            (pushed_elsewhere xs x i (λ h. apart (ap₂ name (sym same) (sym h))))
        | inr other ↦ rw (get-set_other all t u (xs ++ x ∷ []) other) refl
      ]

-- ---- a step that ended an operation
module _ {Machine Memory Place Form : Type 0} (rules : Rules Memory Place) (program : Program)
    (state next : State Machine Memory Place Form) (t : ℕ) (thread : Thread Place) (r : Bool)
    (there : slice_get state.threads t ≡ Some thread) (answered : HasGone state.threads t thread next.threads)
    (said : answered.said ≡ Some r) (fits : Fits rules program next)
    (last : All (λ (x : Thread Place). All (λ note. slice_index note t ≤ length thread.replies) x.notes)
    next.threads) where
  abbrev IsUncounted : List ℕ → Type 0
  IsUncounted note = slice_index note t ≤ length thread.replies

  abbrev ended : OpId
  ended = name t (length thread.replies)

  at_now : slice_get next.threads t ≡ Some answered.now
  at_now = now_there state.threads next.threads t thread there answered

  replies_longer : replies_of next.threads ≡ slice_set (replies_of state.threads) t (thread.replies ++ r ∷ [])
  replies_longer = rw said at (replies_now state.threads next.threads t thread there answered)

  -- the operation began, since each reply has its note
  note_there : length thread.replies < length answered.now.notes
  note_there =
      let below = slice_get_within next.threads t answered.now at_now in
      let ops = get_at program.threads t (omega (arith, fits.thread_count)) in
      let own = fits.threads t ops.0 answered.now ops.1 at_now in
      let noted = rw (answered.place (rw said refl)) at own.replies in
      let pushed = ap length (rw said at answered.replies) in
      omega (arith, length_push thread.replies r)

  ended_began : IsBegun (history_of next) ended
  ended_began =
      let note = get_at answered.now.notes (length thread.replies) note_there in
      rw (
        value_from_start t (length thread.replies) (notes_of next.threads),
        map-get (λ (x : Thread Place). x.notes) next.threads t answered.now at_now,
        note.1,
      ) refl

  -- and no note counts it
  none_after : (b : OpId) → EndedBefore (history_of next) ended b → ⊥
  none_after b before =
      let note =
      IsSomeAnd-value _ (λ note. length thread.replies < slice_index note t)
      (rw (value_from_start b.thread b.index (notes_of next.threads)) at before) in
      option_and_then_some (λ (ns : List (List ℕ)). slice_get ns b.index)
      (slice_get (notes_of next.threads) b.thread) note.0 note.1 (λ ns own here.
      let of = get-map (λ (x : Thread Place). x.notes) next.threads b.thread ns own in
      let notes = all_get (λ (x : Thread Place). All IsUncounted x.notes) next.threads b.thread of.0 last of.1 in
      omega (arith, note.2, all_get IsUncounted of.0.notes b.index note.0 notes (rw (← of.2) here)))

  has_replied : HasReplied (history_of state) (history_of next) ended r
  has_replied =
      let own = map-get (λ (x : Thread Place). x.replies) state.threads t thread there in
      record {
        began = ended_began;
        replied = rw (value_from_start t (length thread.replies) (replies_of next.threads), replies_longer)
            (grown_here (replies_of state.threads) t thread.replies r own);
        others = λ b apart.
            let value = value_from_start b.thread b.index in
            rw (value (replies_of next.threads), value (replies_of state.threads), replies_longer)
            (grown_elsewhere (replies_of state.threads) t thread.replies r own b.thread b.index apart);
        begun = notes_still state.threads next.threads t thread there answered;
        last = none_after;
      }

-- a step after which a thread has a reply more, and no note counts the operation, is such a step of its history
pub step_replied : {Machine Memory Place Form : Type 0} (rules : Rules Memory Place) (program : Program)
    (state next : State Machine Memory Place Form) (t : ℕ) → step rules program state t ≡ Some next
    → Fits rules program next → (a b : Thread Place) → slice_get state.threads t ≡ Some a
    → slice_get next.threads t ≡ Some b → (ended : OpId) (r : Bool) → ended.thread ≡ t
    → ended.index ≡ length a.replies → slice_get b.replies (length a.replies) ≡ Some r
    → All (λ (x : Thread Place). All (λ note. slice_index note ended.thread ≤ ended.index) x.notes) next.threads
    → HasReplied (history_of state) (history_of next) ended r
step_replied rules program state next t leads fits a b at_a at_b ended r thread index answer last =
    let s = step_gone rules program state next t leads in
    let same : s.0 ≡ a = cc (s.1, at_a) in
    let now : s.2.now ≡ b = cc (now_there state.threads next.threads t s.0 s.1 s.2, at_b) in
    let said : s.2.said ≡ Some r =
    sym (stated state.threads next.threads t s.0 s.1 s.2) ∙ rw (now, same) answer in
    let named : ended ≡ name t (length s.0.replies) = rw (same, ← index, ← thread) refl in
    rw named (has_replied rules program state next t s.0 r s.1 s.2 said fits (rw named at last))
