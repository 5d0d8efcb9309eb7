-- Where all of a list passes a test, the test counts all.
use Rattle.std.proofs.Common.{◌≡◌, ℕ, zero, suc, ◌+◌, inl, inr, Bool, true, cond, Some, List, [], ◌∷◌, length}
use Rattle.std.proofs.Common.{count_by, sym, ap, ◌∙◌, arith, slice_get, eqb, leb}
use Rattle.std.specs.Prelude.{◌↔◌}
use Rattle.std.proofs.lemmas.Bool.{cases_Bool, eqb-true, eq-eqb, leb-true, le-leb}
use Rattle.std.proofs.lemmas.List.Sums.{sum_by-cons, count_by-le-length}
use Rattle.std.proofs.lemmas.Option.{slice_get_within}
use Rattle.book.specs.Entries.{Entry}
use Rattle.book.specs.Layers.{IsShallow}
use Rattle.book.proofs.Counts.{count_upto}

module _ {X : Type 0} (p : X → Bool) where
  counted : (x : X) (xs : List X) → count_by p (x ∷ xs) ≡ cond {A = ℕ} (p x) 1 0 + count_by p xs
  counted x xs = sum_by-cons (λ (y : X). cond {A = ℕ} (p y) 1 0) x xs

  counted_rest : (x : X) (xs : List X) → count_by p (x ∷ xs) ≡ suc (length xs)
      → (p x ≡ true) × (count_by p xs ≡ length xs)
  counted_rest x xs counts =
      let bounded = count_by-le-length p xs in
      elim (cases_Bool (p x)) [
        | inl t ↦ (t, omega (arith, counted x xs, ap (λ b. cond {A = ℕ} b 1 0) t))
        | inr f ↦ absurd (omega (arith, counted x xs, ap (λ b. cond {A = ℕ} b 1 0) f))
      ]

  -- where a test counts all of a list, each passes it
  every_counted : (xs : List X) → count_by p xs ≡ length xs → (i : ℕ) (x : X) → slice_get xs i ≡ Some x → p x ≡ true
  every_counted [] counts i x at = cc
  every_counted (w ∷ xs) counts zero x at = let e : w ≡ x = cc in rw (← e) (counted_rest w xs counts).0
  every_counted (w ∷ xs) counts (suc i) x at = every_counted xs (counted_rest w xs counts).1 i x at

-- the entries of at most n steps are as many as all of them just if none has more
pub shallow_counted : {S : Type 0} (steps : S → ℕ) (es : List (Entry S)) (n k l : ℕ)
    → k ≡ count_by (λ (e : Entry S). leb (steps e.state) n) es → l ≡ length es
    → (eqb k l ≡ true) ↔ IsShallow steps es n
shallow_counted {S} steps es n k l counts all =
    let p = λ (e : Entry S). leb (steps e.state) n in (
      (λ h i e at. leb-true (steps e.state) n (every_counted p es (sym counts ∙ eqb-true k l h ∙ all) i e at)),
      (λ shallow. eq-eqb k l (counts ∙ sym (all ∙ count_upto p es (length es) (omega arith)
          (λ i e at less. le-leb (steps e.state) n (shallow i e at))
          (λ i e at past. absurd (omega (arith, slice_get_within es i e at)))))),
    )
