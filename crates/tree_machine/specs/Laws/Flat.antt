-- Bytes determine the numbers and the facts that they begin with.
use Rattle.std.proofs.Common.{◌≡◌, ℕ, zero, suc, ◌/◌, ◌%◌, ◌<◌, List, []}
use Rattle.std.proofs.Common.{◌∷◌, ◌++◌, length, replicate, refl, arith, append_assoc}
use Rattle.std.specs.List.{flat_map}
use Rattle.std.proofs.lemmas.Bool.Decides.{nat_tests}
use Rattle.std.proofs.lemmas.List.Concat.{flat_map-cons}
use Rattle.tree_machine.specs.Flat.{number_code, long_code, facts_code}

-- ---- one number

digits_split : (k l r s : ℕ) (xs ys : List ℕ) → r < 255 → s < 255
    → replicate k 255 ++ r ∷ xs ≡ replicate l 255 ++ s ∷ ys → (k ≡ l) × (r ≡ s) × (xs ≡ ys)
digits_split zero zero r s xs ys h g e = (refl, cc, cc)
digits_split zero (suc l) r s xs ys h g e = grind arith
digits_split (suc k) zero r s xs ys h g e = grind arith
digits_split (suc k) (suc l) r s xs ys h g e = grind (arith, digits_split k l r s xs ys h g)

-- a number in bytes in front of others, end to end
pub number_read : (n m : ℕ) (xs ys : List ℕ) → replicate (n / 255) 255 ++ (n % 255) ∷ xs
    ≡ replicate (m / 255) 255 ++ (m % 255) ∷ ys → (n ≡ m) × (xs ≡ ys)
number_read n m xs ys e = grind (arith, digits_split (n / 255) (m / 255) (n % 255) (m % 255) xs ys)

pub number_split : (n m : ℕ) (xs ys : List ℕ) → number_code n ++ xs ≡ number_code m ++ ys → (n ≡ m) × (xs ≡ ys)
number_split n m xs ys e = number_read n m xs ys (simp append_assoc at e)

-- ---- one value after the other

-- whatever comes behind it, what is coded and where its bytes end can be read off
abbrev pub IsReadable : {A : Type 0} → (A → List ℕ) → Type 0
IsReadable {A} code = (x y : A) (xs ys : List ℕ) → code x ++ xs ≡ code y ++ ys → (x ≡ y) × (xs ≡ ys)

pub each_readable : {A : Type 0} (code : A → List ℕ) → IsReadable code → (cs ds : List A) (xs ys : List ℕ)
    → length cs ≡ length ds → flat_map code cs ++ xs ≡ flat_map code ds ++ ys → (cs ≡ ds) × (xs ≡ ys)
each_readable code readable [] [] xs ys l e = (refl, e)
each_readable code readable (c ∷ cs) (d ∷ ds) xs ys l e =
    let bytes = simp (flat_map-cons code, append_assoc) at e in
    grind (arith, readable c d _ _ bytes, each_readable code readable cs ds xs ys)
each_readable code readable _ _ xs ys l e = absurd (omega arith)

-- ---- facts

-- the long code of facts and of how many references there are
long_split : (fs gs : List ℕ) (r s : ℕ) (xs ys : List ℕ) → long_code fs r ++ xs ≡ long_code gs s ++ ys
    → (fs ≡ gs) × (r ≡ s) × (xs ≡ ys)
long_split fs gs r s xs ys e = grind (arith, append_assoc, number_read, each_readable, number_split)

pub facts_split : (fs gs : List ℕ) (r s : ℕ) (xs ys : List ℕ) → facts_code fs r ++ xs ≡ facts_code gs s ++ ys
    → (fs ≡ gs) × (r ≡ s) × (xs ≡ ys)
facts_split [] [] r s xs ys e = long_split [] [] r s xs ys e
facts_split [] (b ∷ ns) r s xs ys e = grind (arith, long_split [] (b ∷ ns) r s xs ys)
facts_split (a ∷ ms) [] r s xs ys e = grind (arith, long_split (a ∷ ms) [] r s xs ys)
facts_split (a ∷ ms) (b ∷ ns) r s xs ys e =
    grind (arith, nat_tests, each_readable number_code number_split ms ns xs ys, long_split (a ∷ ms) (b ∷ ns) r s xs ys)
