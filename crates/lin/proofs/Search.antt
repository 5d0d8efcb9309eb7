-- What a search place by place knows of the operations that it tried.
use Rattle.std.proofs.Common.{◌≡◌, ℕ, ◌+◌, ◌<◌, ◌≤◌, ◌||◌, inl, inr, Bool, true, false, true≢false, List, [], ◌∷◌}
use Rattle.std.proofs.Common.{◌++◌, length, Option, Some, None, IsSome, All, sym, ◌∙◌, ap, arith}
use Rattle.std.proofs.Common.{append_assoc}
use Rattle.std.proofs.Math.Bool.{or-false}
use Rattle.std.proofs.lemmas.Bool.{cases_Bool}
use mathlib.Core.Path.{fun_ext}
use Rattle.std.specs.Option.{option_to_list}
use Rattle.std.proofs.lemmas.List.{length_push, same_from_push}
use Rattle.std.proofs.lemmas.List.Folds.{list_any-append}
use Rattle.sched_program.specs.declared.operation.OpId.{OpId}
use Rattle.sched_program.specs.Program.{Program}
use Rattle.sched_program.specs.History.{History}
use Rattle.lin.specs.Keys.{Keys}
use Rattle.sched_program.specs.Name.{same_name, value_at}
use Rattle.lin.specs.Completion.{Listed, listed_in, with_name, StandsNext, Completes, EveryFinishedIsListed, IsHopeless}
use Rattle.lin.proofs.Names.{each_named, same_name-is, with_name-itself}
use Rattle.lin.proofs.Completions.{StandsNext-same}

listed_push : (order : List OpId) (a : OpId) → listed_in (order ++ a ∷ []) ≡ with_name (listed_in order) a
listed_push order a =
    fun_ext (λ b. list_any-append (λ c. same_name c b) order (a ∷ []) ∙ rw (or-false (same_name a b)))

-- a pop takes back what was pushed
pub popped : {X : Type 0} (ys xs zs : List X) (a : X) (r : Option X) → zs ≡ ys ++ option_to_list r → zs ≡ xs ++ a ∷ []
    → (0 < length zs → IsSome r) → ys ≡ xs
popped ys xs zs a None e f some = absurd (true≢false (sym (some (omega (arith, ap length f, length_push xs a)))))
popped ys xs zs a (Some x) e f some = (same_from_push ys xs x a (sym e ∙ f)).0

-- 1 for what is not listed, 0 for what is
abbrev pub weight : Bool → ℕ
weight true = 0
weight false = 1

-- how many entries have a name that is not listed
abbrev pub unlisted_count : {V : Type 0} → Listed → List (OpId × V) → ℕ
unlisted_count listed [] = 0
unlisted_count listed (x ∷ xs) = weight (listed x.0) + unlisted_count listed xs

weight_falls : (b c : Bool) → weight (b || c) ≤ weight b
weight_falls b c = grind (arith, cases_Bool b)

module _ {V : Type 0} (listed : Listed) (a : OpId) where
  unlisted_le : (xs : List (OpId × V)) → unlisted_count (with_name listed a) xs ≤ unlisted_count listed xs
  unlisted_le [] = omega arith
  unlisted_le (x ∷ xs) = omega (arith, unlisted_le xs, weight_falls (listed x.0) (same_name a x.0))

  -- one more begun operation is listed
  pub unlisted_falls : (xs : List (OpId × V)) → listed a ≡ false → IsSome (value_at xs a)
      → unlisted_count (with_name listed a) xs < unlisted_count listed xs
  unlisted_falls [] new some = absurd (true≢false (sym some))
  unlisted_falls (x ∷ xs) new some = elim (cases_Bool (same_name x.0 a)) [
    | inl same ↦
        let is = same_name-is x.0 a same in
        let before : weight (listed x.0) ≡ 1 = rw (is, new) in
        let after : weight (with_name listed a x.0) ≡ 0 = rw (is, with_name-itself listed a) in
        omega (arith, unlisted_le xs, before, after)
    | inr other ↦
        omega (arith, unlisted_falls xs new (rw other at some), weight_falls (listed x.0) (same_name a x.0))
  ]

-- an operation that comes next was pushed on the order
module _ {program : Program} {history : History} (order : List OpId) {pushed : List OpId} {listed : Listed}
    {keys next : Keys} {a : OpId} (are : listed ≡ listed_in order)
    (stands_next : StandsNext program history listed keys a next) (push : pushed ≡ order ++ a ∷ []) where
  stands : StandsNext program history (listed_in order) keys a next
  stands = rw are at stands_next

  listed_pushed : listed_in pushed ≡ with_name (listed_in order) a
  listed_pushed = rw (push, listed_push order a)

  -- fewer entries have a name that is not listed, and these operations are listed
  pub once_pushed : (after : Listed) → after ≡ with_name listed a
      → (unlisted_count (listed_in pushed) history.begun < unlisted_count (listed_in order) history.begun)
      × (after ≡ listed_in pushed)
  once_pushed after is = (
    rw listed_pushed (unlisted_falls (listed_in order) a history.begun stands.new stands.begun),
    is ∙ (λ j. with_name (are j) a) ∙ sym listed_pushed,
  )

  -- what may follow with this operation in front may follow
  pub found_more : (whole : List OpId)
      → (rest : List OpId) × (whole ≡ pushed ++ rest) × Completes program history (listed_in pushed) next rest
      → (rest : List OpId) × (whole ≡ order ++ rest) × Completes program history (listed_in order) keys rest
  found_more whole found = (
    a ∷ found.0,
    rw (push, append_assoc order (a ∷ []) found.0) at found.1,
    (next, stands, rw listed_pushed at found.2),
  )

  -- no list with this operation in front completes if nothing may follow it
  pub not_after : IsHopeless program history (listed_in pushed) next → (rest : List OpId)
      → Completes program history (listed_in order) keys (a ∷ rest) → ⊥
  not_after none rest c =
      let e = StandsNext-same program history (listed_in order) keys c.0 next a c.1 stands in
      none rest (rw (listed_pushed, ← e) c.2)

-- no list that begins with this operation completes
abbrev pub CannotComeNext : Program → History → Listed → Keys → OpId → Type 0
CannotComeNext program history listed keys a =
    (rest : List OpId) → Completes program history listed keys (a ∷ rest) → ⊥

-- where each begun operation was tried, nothing completes
pub nothing_left : (program : Program) (history : History) (listed : Listed) (keys : Keys)
    → (EveryFinishedIsListed history listed → ⊥)
    → All (λ e. CannotComeNext program history listed keys e.0) history.begun
    → IsHopeless program history listed keys
nothing_left program history listed keys missing tried [] every = missing every
nothing_left program history listed keys missing tried (a ∷ rest) c =
    each_named (CannotComeNext program history listed keys) history.begun a tried c.1.begun rest c
