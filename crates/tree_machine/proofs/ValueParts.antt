-- Values that are each made into a part: what the parts say of the values, and the values of the parts.
use Rattle.std.proofs.Common.{arith, ◌≡◌, ℕ, ◌<◌, List, [], ◌∷◌, map, length, slice_get, Option, Some, None, All, refl}
use Rattle.std.specs.List.{AllZip}
use Rattle.std.proofs.lemmas.List.{get_or-map, length-map}
use Rattle.std.proofs.lemmas.List.Elements.{All-map, All-weaker}
use Rattle.tree_machine.specs.Cells.{IsPairedOrNone}
use Rattle.tree_machine.specs.Parts.{Part, part_at, ArePartsPaired, IsPartBelow}
use Rattle.tree_machine.specs.Laws.Cells.{AllZip-weaker}
use Rattle.tree_machine.specs.Laws.Codes.{map_tells}
use Rattle.tree_machine.specs.Laws.MetLists.{map_zip}
use Rattle.tree_machine.specs.Laws.PartsBy.{part_map_at}
use Rattle.tree_machine.proofs.Lists.{get_at}

-- ---- lists of values

module _ {A B : Type 0} (f : A → B) where
  -- what holds of the values of a map
  pub from_map : (P : A → Type 0) (Q : B → Type 0) → ((a : A) → Q (f a) → P a) → (xs : List A) → All Q (map f xs)
      → All P xs
  from_map P Q back xs h k d l =
      back _ (rw (get_or-map f xs k d (f d) l) at (h k (f d) (omega (arith, l, length-map xs f))))

  module _ (P : A → A → Type 0) (Q : B → B → Type 0) where
    pub zip_map : ((a b : A) → P a b → Q (f a) (f b)) → (xs ys : List A) → AllZip P xs ys
        → AllZip Q (map f xs) (map f ys)
    zip_map to xs ys h = map_zip Q f f xs ys (AllZip-weaker P _ to xs ys h)

    pub zip_unmap : ((a b : A) → Q (f a) (f b) → P a b) → (xs ys : List A) → AllZip Q (map f xs) (map f ys)
        → AllZip P xs ys
    zip_unmap back [] [] h = tt
    zip_unmap back (x ∷ xs) (y ∷ ys) h = (back x y h.0, zip_unmap back xs ys h.1)
    zip_unmap back _ _ h = absurd h

-- ---- the parts of values

-- a number is paired with itself alone
abbrev pub Same : ℕ → ℕ → Type 0
Same x y = x ≡ y

names_paired : (xs : List (Option ℕ)) → AllZip (IsPairedOrNone Same) xs xs
names_paired [] = tt
names_paired (None ∷ xs) = (tt, names_paired xs)
names_paired (Some x ∷ xs) = (refl, names_paired xs)

module _ {A : Type 0} (part : A → Part) where
  -- values are equal where equality pairs their parts; so equal parts are of equal values
  pub values_equal : ((a b : A) → ArePartsPaired Same Same (part a) (part b) → a ≡ b) → (xs ys : List A)
      → map part xs ≡ map part ys → xs ≡ ys
  values_equal equal =
      map_tells part (λ a b e. equal a b (rw (← e)
      (record { facts = refl; nodes = names_paired (part a).nodes; records = names_paired (part a).records })))

  module _ (T : A → Type 0) (n m i j : ℕ) (e : i ≡ n) (d : j ≡ m) where
    -- each part has its numbers below these
    pub all_below : ((a : A) → T a → IsPartBelow n m (part a)) → (xs : List A) → All T xs
        → All (IsPartBelow i j) (map part xs)
    all_below below xs h =
        rw (e, d) (All-map (IsPartBelow n m) part xs (All-weaker T (λ x. IsPartBelow n m (part x)) below xs h))

    -- each value whose part has its numbers below these
    pub all_in : ((a : A) → IsPartBelow n m (part a) → T a) → (xs : List A) → All (IsPartBelow i j) (map part xs)
        → All T xs
    all_in inner = from_map part T (IsPartBelow i j) (λ a k. inner a (rw (e, d) at k))

  module _ (xs ys : List A) (x y : ℕ) where
    -- there are as many parts as values
    pub parts_within : (x < length xs) × (y < length ys) → (x < length (map part xs)) × (y < length (map part ys))
    parts_within r = simp length-map r

    pub values_within : (x < length (map part xs)) × (y < length (map part ys)) → (x < length xs) × (y < length ys)
    values_within r = simp length-map at r

    -- the parts at two places are paired as the values there are
    module _ (P R : ℕ → ℕ → Type 0) (T : Option A → Option A → Type 0) (r : (x < length xs) × (y < length ys)) where
      pub parts_at : ((a b : A) → T (Some a) (Some b) → ArePartsPaired P R (part a) (part b))
          → T (slice_get xs x) (slice_get ys y)
          → ArePartsPaired P R (part_at (map part xs) x) (part_at (map part ys) y)
      parts_at to h =
          let s = get_at xs x r.0 in
          let t = get_at ys y r.1 in
          rw (part_map_at part xs x s.0 s.1, part_map_at part ys y t.0 t.1) (to s.0 t.0 (rw (s.1, t.1) at h))

      pub values_at : ((a b : A) → ArePartsPaired P R (part a) (part b) → T (Some a) (Some b))
          → ArePartsPaired P R (part_at (map part xs) x) (part_at (map part ys) y)
          → T (slice_get xs x) (slice_get ys y)
      values_at back h =
          let s = get_at xs x r.0 in
          let t = get_at ys y r.1 in
          rw (s.1, t.1)
          (back s.0 t.0 (rw (part_map_at part xs x s.0 s.1, part_map_at part ys y t.0 t.1) at h))
