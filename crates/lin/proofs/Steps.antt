-- Whether an operation may come next, from sets of operations.
use Rattle.std.proofs.Common.{◌≡◌, ◌&&◌, ◌||◌, Bool, true, false, true≢false, List, ◌∷◌, IsSome, MatchBool, ◌↔◌}
use Rattle.std.proofs.Common.{arith, inl, inr, refl, sym, ◌∙◌, ap}
use Rattle.std.proofs.lemmas.Bool.{or_cases, or_parts, or_left, or_right, and_parts, cases_Bool, true_from_ne_false}
use Rattle.sched_program.specs.declared.operation.OpId.{OpId}
use Rattle.sched_program.specs.Program.{Program}
use Rattle.sched_program.specs.History.{History, IsHistory, reply, EndedBefore}
use Rattle.sched_program.specs.Name.{same_name}
use Rattle.lin.specs.Keys.{Keys}
use Rattle.lin.specs.Completion.{Listed, with_name, EveryFinishedIsListed, Completes}
use Rattle.lin.specs.Timeline.{HasPlace, finished_in}
use Rattle.lin.specs.Progress.{AreBarred}
use Rattle.lin.proofs.Names.{each_named, same_name-is, with_name-cases, with_name-earlier, with_name-itself}
use Rattle.lin.proofs.Completions.{never_late}
use Rattle.lin.proofs.Timelines.{finished_placed}

-- with one more operation listed, those that ended before it began are barred too
pub barred_more : (history : History) (listed barred before : Listed) (name : OpId) → AreBarred history listed barred
    → ((a : OpId) → HasPlace a → (before a ≡ true) ↔ EndedBefore history a name)
    → AreBarred history (with_name listed name) (λ a. barred a || before a)
barred_more history listed barred before name barred_are before_are a has = (
  λ some. elim (or_cases (barred a) (before a) some) [
    | inl earlier ↦ let ended = (barred_are a has).0 earlier in
        (ended.0, with_name-earlier listed name ended.0 ended.1, ended.2)
    | inr now ↦ (name, with_name-itself listed name, (before_are a has).0 now)
  ],
  λ ended. elim (with_name-cases listed name ended.0 ended.1) [
    | inl earlier ↦ or_left (barred a) (before a) ((barred_are a has).1 (ended.0, earlier, ended.2))
    | inr same ↦ or_right (barred a) (before a) ((before_are a has).1 (rw same ended.2))
  ],
)

module _ (history : History) (listed barred before : Listed) (name : OpId) (has : HasPlace name)
    (barred_are : AreBarred history listed barred)
    (before_are : (a : OpId) → HasPlace a → (before a ≡ true) ↔ EndedBefore history a name) where
  barred_now : AreBarred history (with_name listed name) (λ a. barred a || before a)
  barred_now = barred_more history listed barred before name barred_are before_are

  -- an operation in none of the sets is new and in time
  pub in_time : ((listed name || barred name) || before name) ≡ false
      → (listed name ≡ false) × ((b : OpId) → with_name listed name b ≡ true → EndedBefore history name b → ⊥)
  in_time none =
      let sets = or_parts (listed name || barred name) (before name) none in
      let pieces = or_parts (listed name) (barred name) sets.0 in (
        pieces.0,
        λ b among ended. true≢false (sym ((barred_now name has).1 (b, among, ended)) ∙ rw (pieces.1, sets.1) refl),
      )

  module _ (program : Program) (keys : Keys) (rest : List OpId)
      (c : Completes program history listed keys (name ∷ rest)) where
    -- one that may come next is in none of the sets,
    pub in_no_set : ((listed name || barred name) || before name) ≡ true → ⊥
    in_no_set some =
        let not_late : (barred name || before name) ≡ true → ⊥ =
        λ later. let ended = (barred_now name has).0 later in c.1.in_time ended.0 ended.1 ended.2 in
        grind (arith, c.1.new, not_late, some, cases_Bool (barred name), cases_Bool (before name))

    -- and each finished operation that ended before it began is listed
    pub none_missing : IsHistory history → (finished : Listed) → finished ≡ finished_in history.finished → (a : OpId)
        → (before a && finished a) ≡ true → listed a ≡ true
    none_missing events finished finished_are a among =
        let pieces = and_parts (before a) (finished a) among in
        let some : IsSome (reply history a) = sym (ap (λ f. f a) finished_are) ∙ pieces.1 in
        let placed = each_named HasPlace history.finished a (finished_placed history events) some in
        let ended : EndedBefore history a name = (before_are a placed).0 pieces.0 in
        true_from_ne_false (listed a) (λ new. elim (cases_Bool (same_name name a)) [
          | inl same ↦
              c.1.in_time name (with_name-itself listed name) (rw (← same_name-is name a same) at ended)
          | inr other ↦ never_late program history (with_name listed name) c.0 rest a name c.2 some
              (rw (new, other) refl) (with_name-itself listed name) ended
        ])

-- a test decides between two facts
pub by_test : {P Q : Type 0} (b : Bool) → (b ≡ true → P) → (b ≡ false → Q) → MatchBool b P Q
by_test true f g = f refl
by_test false f g = g refl

-- every finished operation is listed exactly if the one set is within the other
pub every_listed : (history : History) (finished listed stated : Listed) → finished ≡ finished_in history.finished
    → listed ≡ stated
    → ((a : OpId) → finished a ≡ true → listed a ≡ true) ↔ EveryFinishedIsListed history stated
every_listed history finished listed stated are same = rw (← same)
    (λ within a some. within a (ap (λ f. f a) are ∙ some), λ every a among. every a (sym (ap (λ f. f a) are) ∙ among))
