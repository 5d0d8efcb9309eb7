-- Names of operations, and the values beside them.
use Rattle.std.proofs.Common.{◌≡◌, ◌≢◌, ℕ, zero, suc, ◌+◌, ◌*◌, ◌<◌, ◌||◌, ◌⊎◌, inl, inr, true, false}
use Rattle.std.proofs.Common.{true≢false, List, [], ◌∷◌, ◌++◌, length, get_or, IsSome, All, Contains}
use Rattle.std.proofs.Common.{refl, sym, eqb, eqb-true, eq-eqb, arith}
use Rattle.std.specs.Prelude.{is_some}
use Rattle.std.proofs.lemmas.Bool.{and_parts, or_cases, or_left, or_right, cases_Bool}
use Rattle.std.specs.Cmp.{IsEquivalence}
use Rattle.std.proofs.lemmas.Bool.Decides.{nat_tests}
use Rattle.std.proofs.lemmas.List.Elements.{All-head, All-tail}
use Rattle.std.proofs.lemmas.List.Folds.{list_any_at}
use Rattle.std.proofs.lemmas.Map.Views.{Contains-from_any}
use Rattle.sched_program.specs.declared.operation.OpId.{OpId}
use Rattle.sched_program.specs.Name.{same_name, value_at}
use Rattle.lin.specs.Completion.{Listed, listed_in, with_name}

pub same_name_self : (a : OpId) → same_name a a ≡ true
same_name_self a = rw (eq-eqb a.thread a.thread refl, eq-eqb a.index a.index refl)

pub same_name-is : (a b : OpId) → same_name a b ≡ true → a ≡ b
same_name-is a b h =
    let pieces = and_parts (eqb a.thread b.thread) (eqb a.index b.index) h in
    λ j. record { thread = eqb-true _ _ pieces.0 j; index = eqb-true _ _ pieces.1 j }

pub same_name_laws : IsEquivalence same_name
same_name_laws = record {
  refl = same_name_self;
  symm = λ a b. grind (arith, nat_tests);
  congr = λ a b c same. rw (same_name-is a b same) refl;
}

-- a list has the name of an operation exactly if it has the operation
pub listed-Contains : (order : List OpId) (a : OpId) → Contains order a → listed_in order a ≡ true
listed-Contains order a among =
    list_any_at (λ b. same_name b a) order among.0 a among.1 (rw among.2 (same_name_self a))

pub Contains-listed : (order : List OpId) (a : OpId) → listed_in order a ≡ true → Contains order a
Contains-listed order a h =
    Contains-from_any {eq = λ x b. same_name b x} (λ x b same. sym (same_name-is b x same)) a order h

-- what is in a set with one more name was in it, or is that name
module _ (listed : Listed) (x : OpId) where
  pub with_name-cases : (b : OpId) → with_name listed x b ≡ true → (listed b ≡ true) ⊎ (x ≡ b)
  with_name-cases b h = elim (or_cases (listed b) (same_name x b) h) [
    | inl earlier ↦ inl earlier
    | inr same ↦ inr (same_name-is x b same)
  ]

  pub with_name-earlier : (b : OpId) → listed b ≡ true → with_name listed x b ≡ true
  with_name-earlier b h = or_left (listed b) (same_name x b) h

  pub with_name-itself : with_name listed x x ≡ true
  with_name-itself = or_right (listed x) (same_name x x) (same_name_self x)

-- another operation has another place
pub places_differ : (a b : OpId) → a.index < 8 → b.index < 8 → same_name a b ≡ false
    → 8 * b.thread + b.index ≢ 8 * a.thread + a.index
places_differ a b short below differs e =
    grind (arith, nat_tests, differs)

module _ {V : Type 0} where
  -- a name has a value in a longer list exactly if it has one in the list or is the last name
  pub is_some_push : (xs : List (OpId × V)) (x : OpId × V) (a : OpId)
      → is_some (value_at (xs ++ x ∷ []) a) ≡ (is_some (value_at xs a) || same_name x.0 a)
  is_some_push [] x a = grind (arith, cases_Bool (same_name x.0 a))
  is_some_push (y ∷ xs) x a = grind (arith, cases_Bool (same_name y.0 a), is_some_push xs x a)

  -- what is at a place of a list has a value
  pub IsSome-value_at : (xs : List (OpId × V)) (i : ℕ) (d : OpId × V) → i < length xs
      → IsSome (value_at xs (get_or xs i d).0)
  IsSome-value_at [] i d h = absurd (omega arith)
  IsSome-value_at (x ∷ xs) zero d h = rw (same_name_self x.0) refl
  IsSome-value_at (x ∷ xs) (suc i) d h =
      grind (arith, cases_Bool (same_name x.0 (get_or xs i d).0), IsSome-value_at xs i d)

  -- what holds of the name of each entry holds of each name with a value
  pub each_named : (P : OpId → Type 0) (entries : List (OpId × V)) (a : OpId) → All (λ e. P e.0) entries
      → IsSome (value_at entries a) → P a
  each_named P [] a each some = absurd (true≢false (sym some))
  each_named P (x ∷ xs) a each some = elim (cases_Bool (same_name x.0 a)) [
    | inl same ↦ rw (← same_name-is x.0 a same) (All-head (λ e. P e.0) x xs each)
    | inr other ↦ each_named P xs a (All-tail (λ e. P e.0) x xs each) (rw other at some)
  ]
