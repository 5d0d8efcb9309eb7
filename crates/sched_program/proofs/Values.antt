-- Lists of values that stand for things, value by value.
use Rattle.std.proofs.Common.{◌≡◌, ℕ, zero, suc, ◌+◌, ◌<◌, List, [], ◌∷◌, ◌++◌, length, map, get_or, take, arith, subst}
use Rattle.std.proofs.Common.{sym, refl, ap, ◌∙◌, Some, All}
use Rattle.std.proofs.lemmas.Option.{same_Some}
use Rattle.std.proofs.lemmas.List.{take_more, get_or-map, length-map}
use Rattle.std.proofs.lemmas.List.Elements.{All-cons, All-nil}
use Rattle.serde_json.specs.Find.{get, as_array}
use Rattle.serde_json.specs.Data.{Data, array, Items, no_items, item}
use Rattle.serde_json.specs.View.{view, items_view}
use Rattle.serde_json.specs.declared.value.Value.{Value}
use Rattle.sched_program.specs.Text.{Each, IsListOf, HasMember}
use Rattle.sched_program.specs.Faults.{item_count, IsListOfCount}

-- a list in memory has as many items as it has values
pub items_view_count : (values : List Value) → item_count (items_view values) ≡ length values
items_view_count [] = refl
items_view_count (value ∷ values) = ap suc (items_view_count values)

-- what holds of each image
pub of_map_All : {A : Type 0} (P : ℕ → Type 0) (f : A → ℕ) (xs : List A) → All P (map f xs) → All (λ x. P (f x)) xs
of_map_All P f xs all k d below =
    rw (get_or-map f xs k d (f d) below) at (all k (f d) (omega (arith, length-map xs f)))

-- a value stands for one thing at most
abbrev pub IsUnique : {A : Type 0} → (Data → A → Type 0) → Type 0
IsUnique {A} StandsFor = (value : Data) (x y : A) → StandsFor value x → StandsFor value y → x ≡ y

-- a value is a list in one way
pub same_items : (value : Data) (values others : Items) → value ≡ array values → value ≡ array others → values ≡ others
same_items value values others is also = same_Some values others (ap as_array (sym is ∙ also))

-- what holds of an object's member of a name, which is one
pub of_member : (P : Data → Type 0) (name : List ℕ) (value found : Data) → Some found ≡ get name value
    → HasMember name P value → P found
of_member P name value found is has = subst P (same_Some _ _ (sym has.1 ∙ sym is)) has.2

module _ {A : Type 0} (StandsFor : Data → A → Type 0) where
  Each-push : (values : List Value) (xs : List A) (value : Value) (x : A) → Each StandsFor (items_view values) xs
      → StandsFor (view value) x → Each StandsFor (items_view (values ++ value ∷ [])) (xs ++ x ∷ [])
  Each-push [] [] value x all here = (here, tt)
  Each-push (first ∷ values) (y ∷ xs) value x all here = (all.0, Each-push values xs value x all.1 here)
  Each-push values xs value x all here = absurd all

  -- one more value and its thing
  pub Each-more : (values : List Value) (xs ys : List A) (i : ℕ) (value : Value) (x : A) → i < length values
      → value ≡ get_or values i value → ys ≡ xs ++ x ∷ [] → Each StandsFor (items_view (take i values)) xs
      → StandsFor (view value) x
      → Each StandsFor (items_view (take (i + 1) values)) ys
  Each-more values xs ys i value x below is pushed all here =
      rw (pushed, take_more values i value below, ← is) (Each-push (take i values) xs value x all here)

  -- a value that stands for nothing
  pub Each-none : (values : List Value) (xs : List A) (i : ℕ) (value : Value) → i < length values
      → value ≡ get_or values i value → ((x : A) → StandsFor (view value) x → ⊥) → Each StandsFor (items_view values) xs
      → ⊥
  Each-none [] xs i value below is none all = omega arith
  Each-none (v ∷ vs) [] i value below is none all = all
  Each-none (v ∷ vs) (x ∷ xs) zero value below is none all = none x (rw (← is) at all.0)
  Each-none (v ∷ vs) (x ∷ xs) (suc i) value below is none all = Each-none vs xs i value (omega arith) is none all.1

  Each-count : (values : Items) (xs : List A) → Each StandsFor values xs → item_count values ≡ length xs
  Each-count no_items [] all = refl
  Each-count (item value values) (x ∷ xs) all = ap suc (Each-count values xs all.1)
  Each-count values xs all = absurd all

  -- a list has as many items as the things that it stands for
  pub list_counted : (value : Data) (xs : List A) → IsListOf StandsFor value xs → IsListOfCount value (length xs)
  list_counted value xs list = (list.0, list.1, Each-count list.0 xs list.2)

  -- what holds of each thing that a value stands for holds of all
  pub Each-All : (P : A → Type 0) → ((value : Data) (x : A) → StandsFor value x → P x) → (values : Items) (xs : List A)
      → Each StandsFor values xs → All P xs
  Each-All P f values [] h = All-nil P
  Each-All P f no_items (x ∷ xs) h = absurd h
  Each-All P f (item v vs) (x ∷ xs) h = All-cons P x xs (f v x h.0) (Each-All P f vs xs h.1)

  -- where a value stands for one thing at most, so does a list
  Each-same : IsUnique StandsFor → (values : Items) (xs ys : List A) → Each StandsFor values xs
      → Each StandsFor values ys → xs ≡ ys
  Each-same one no_items [] [] all also = refl
  Each-same one (item value values) (x ∷ xs) (y ∷ ys) all also =
      rw (one value x y all.0 also.0, Each-same one values xs ys all.1 also.1)
  Each-same one values xs ys all also = absurd (grind arith)

  pub same_list : IsUnique StandsFor → IsUnique (IsListOf StandsFor)
  same_list one value xs ys list also =
      Each-same one list.0 xs ys list.2 (rw (same_items value also.0 list.0 also.1 list.1) at also.2)

  pub same_member : (name : List ℕ) → IsUnique StandsFor
      → IsUnique (λ value x. HasMember name (λ v. StandsFor v x) value)
  same_member name one value x y has also =
      one has.0 x y has.2 (of_member (λ v. StandsFor v y) name value has.0 (sym has.1) also)

module _ {A B : Type 0} (From : Data → A → Type 0) (To : Data → B → Type 0) (f : A → B)
    (each : (value : Data) (x : A) → From value x → To value (f x)) where
  Each-map : (values : Items) (xs : List A) → Each From values xs → Each To values (map f xs)
  Each-map no_items [] all = tt
  Each-map (item value values) (x ∷ xs) all = (each value x all.0, Each-map values xs all.1)
  Each-map values xs all = absurd all

  -- what each value of a list also stands for
  pub list_map : (value : Data) (xs : List A) → IsListOf From value xs → IsListOf To value (map f xs)
  list_map value xs list = (list.0, list.1, Each-map list.0 xs list.2)

module _ {A B C : Type 0} (One : Data → A → Type 0) (Other : Data → B → Type 0) (Whole : Data → C → Type 0)
    (joined : (value : Data) (x : A) (y : B) → One value x → Other value y → (z : C) × Whole value z) where
  Each-both : (values : Items) (xs : List A) (ys : List B) → Each One values xs → Each Other values ys
      → (zs : List C) × Each Whole values zs
  Each-both no_items xs ys all also = ([], tt)
  Each-both (item value values) (x ∷ xs) (y ∷ ys) all also =
      let here = joined value x y all.0 also.0 in
      let there = Each-both values xs ys all.1 also.1 in
      (here.0 ∷ there.0, (here.1, there.1))
  Each-both values xs ys all also = absurd (grind arith)

  -- a list whose values stand for the pieces stands for the wholes
  pub list_both : (value : Data) (xs : List A) (ys : List B) → IsListOf One value xs → IsListOf Other value ys
      → (zs : List C) × IsListOf Whole value zs
  list_both value xs ys list also =
      let all = Each-both list.0 xs ys list.2 (rw (same_items value also.0 list.0 also.1 list.1) at also.2) in
      (all.0, (list.0, list.1, all.1))
