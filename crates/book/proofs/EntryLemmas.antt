-- An entry by its number, in lists of entries that are made of others.
use Rattle.std.proofs.Common.{rules, ◌≡◌, ◌≢◌, ℕ, zero, suc, ◌+◌, ◌≤◌, ◌⊎◌, inl, inr, List, [], ◌∷◌, ◌++◌, length, refl}
use Rattle.std.proofs.Common.{sym, ap, ◌∙◌, ◌<◌, Some, slice_get, arith, count_by, cond, map, subst, sum_by}
use Rattle.std.specs.List.{range_with_len}
use Rattle.std.proofs.lemmas.List.Sums.{sum_by-cons}
use Rattle.std.proofs.lemmas.Option.{same_Some, slice_get_within}
use Rattle.tree_machine.proofs.Lists.{get_at, get-append_cases}
use Rattle.book.specs.Entries.{Mark, Open, Taken, Expanded, Entry, Successor, At, is_open, is_taken, is_expanded}
use Rattle.book.specs.Entries.{opened, with_mark, with_marks}

-- what stands in two lists in a row at a number of the first stands in the first
pub get-front : {X : Type 0} (xs ys : List X) (i : ℕ) (x : X) → slice_get (xs ++ ys) i ≡ Some x → i < length xs
    → slice_get xs i ≡ Some x
get-front xs ys i x at less =
    elim (get-append_cases xs ys i x at) [ inl l ↦ l | inr r ↦ absurd (omega (arith, r.1)) ]

-- one entry and another that differ in the mark alone
pub record SameButMark {S : Type 0} (e f : Entry S) : Type 0 where
  pub state : f.state ≡ e.state
  pub finding : f.finding ≡ e.finding
  pub origin : f.origin ≡ e.origin

-- e, which is entry j, has become f: it has the mark if it is entry i, and is as it was otherwise
abbrev pub IsMarked : {S : Type 0} → ℕ → Mark → ℕ → Entry S → Entry S → Type 0
IsMarked i k j e f = ((i ≡ j) × (f.mark ≡ k)) ⊎ ((i ≢ j) × (f ≡ e))

module _ {S : Type 0} where
  pub length-with_mark : (es : List (Entry S)) (i : ℕ) (k : Mark) → length (with_mark es i k) ≡ length es
  length-with_mark [] i k = refl
  length-with_mark (e ∷ es) zero k = refl
  length-with_mark (e ∷ es) (suc i) k = ap suc (length-with_mark es i k)

  pub with_mark-append : (es fs : List (Entry S)) (i : ℕ) (k : Mark) → i < length es
      → with_mark (es ++ fs) i k ≡ with_mark es i k ++ fs
  with_mark-append [] fs i k h = absurd (omega arith)
  with_mark-append (e ∷ es) fs zero k h = refl
  with_mark-append (e ∷ es) fs (suc i) k h = ap (λ xs. e ∷ xs) (with_mark-append es fs i k (omega arith))

  -- what is so of entry i with the mark, and of each other entry, is so of each after the mark of i is changed
  pub each-with_mark : (P : ℕ → Entry S → Type 0) (es : List (Entry S)) (i : ℕ) (k : Mark)
      → ((e : Entry S) → At es i e → P i (record e { mark = k }))
      → ((j : ℕ) (e : Entry S) → At es j e → i ≢ j → P j e)
      → (j : ℕ) (f : Entry S) → At (with_mark es i k) j f → P j f
  each-with_mark P [] i k marked other j f at = absurd (cc)
  each-with_mark P (e ∷ es) zero k marked other zero f at =
      let same : record e { mark = k } ≡ f = cc in rw (← same) (marked e refl)
  each-with_mark P (e ∷ es) zero k marked other (suc j) f at = other (suc j) f at (search rules)
  each-with_mark P (e ∷ es) (suc i) k marked other zero f at = other zero f at (search rules)
  each-with_mark P (e ∷ es) (suc i) k marked other (suc j) f at =
      each-with_mark (λ n. P (suc n)) es i k marked
      (λ n d there apart. other (suc n) d there (λ q. apart (omega arith)))
      j f at

  -- the same of entries in a row from a to below z
  pub each-range : (P : ℕ → Entry S → Type 0) (n a z : ℕ) → a + n ≡ z → (es : List (Entry S)) (k : Mark)
      → ((j : ℕ) (e : Entry S) → At es j e → a ≤ j → j < z → P j (record e { mark = k }))
      → ((j : ℕ) (e : Entry S) → At es j e → (a ≤ j → j < z → ⊥) → P j e)
      → (j : ℕ) (f : Entry S) → At (with_marks es (range_with_len a n) k) j f → P j f
  each-range P zero a z is es k marked other = λ j f at. other j f at (λ p q. omega arith)
  each-range P (suc n) a z is es k marked other =
      each-range P n (a + 1) z (omega arith) (with_mark es a k) k
      (each-with_mark (λ j f. a + 1 ≤ j → j < z → P j (record f { mark = k })) es a k (λ e at p q. absurd (omega arith))
      (λ j e at apart p q. marked j e at (omega arith) q))
      (each-with_mark (λ j f. (a + 1 ≤ j → j < z → ⊥) → P j f) es a k
      (λ e at out. marked a e at (omega arith) (omega arith))
      (λ j e at apart out. other j e at (λ p q. out (omega arith) q)))

  -- so an entry afterwards is an entry from before, but for the mark if it is i
  pub at-with_mark : (es : List (Entry S)) (i : ℕ) (k : Mark) (j : ℕ) (f : Entry S) → At (with_mark es i k) j f
      → (e : Entry S) × At es j e × SameButMark e f × IsMarked i k j e f
  at-with_mark es i k =
      each-with_mark (λ j f. (e : Entry S) × At es j e × SameButMark e f × IsMarked i k j e f) es i k
      (λ e at. (e, at, search rules, inl (refl, refl))) (λ j e at apart. (e, at, search rules, inr (apart, refl)))

  -- an entry from before is one afterwards, with the mark if it is i
  pub with_mark-at : (es : List (Entry S)) (i : ℕ) (k : Mark) (j : ℕ) (e : Entry S) → At es j e
      → (f : Entry S) × At (with_mark es i k) j f × SameButMark e f × IsMarked i k j e f
  with_mark-at es i k j e at =
      let f = get_at (with_mark es i k) j (rw (length-with_mark es i k) (slice_get_within es j e at)) in
      let o = at-with_mark es i k j f.0 f.1 in
      let so =
      subst (λ d. SameButMark d f.0 × IsMarked i k j d f.0) (same_Some o.0 e (sym o.1 ∙ at)) (o.2, o.3) in
      (f.0, f.1, so.0, so.1)

module _ {S : Type 0} (weight : Entry S → ℕ) where
  -- an entry that weighed nothing counts as what it weighs with its new mark
  pub sum-with_mark : (es : List (Entry S)) (i : ℕ) (k : Mark) (e : Entry S) → At es i e → weight e ≡ 0
      → sum_by weight (with_mark es i k) ≡ sum_by weight es + weight (record e { mark = k })
  sum-with_mark [] i k e at none = cc
  sum-with_mark (d ∷ es) zero k e at none =
      let same : d ≡ e = cc in simp sum_by-cons (rw (same, none) (omega arith))
  sum-with_mark (d ∷ es) (suc i) k e at none = simp sum_by-cons (omega (arith, sum-with_mark es i k e at none))

  -- open entries that weigh nothing count for nothing
  pub sum-opened : (i : ℕ) → ((u : Successor S) → weight (opened i u) ≡ 0) → (us : List (Successor S))
      → sum_by weight (map (opened i) us) ≡ 0
  sum-opened i none [] = refl
  sum-opened i none (u ∷ us) = simp sum_by-cons (omega (arith, none u, sum-opened i none us))

-- each entry is open, taken or expanded
pub count_marks : {S : Type 0} (es : List (Entry S))
    → length es ≡ count_by (λ e. is_open e.mark) es + count_by (λ e. is_taken e.mark) es
    + count_by (λ e. is_expanded e.mark) es
count_marks [] = refl
count_marks (e ∷ es) = simp sum_by-cons (omega (arith, count_marks es, one_mark e.mark))
  where
    one_mark : (k : Mark) → 1 ≡ cond {A = ℕ} (is_open k) 1 0 + cond {A = ℕ} (is_taken k) 1 0
        + cond {A = ℕ} (is_expanded k) 1 0
    one_mark Open = refl
    one_mark Taken = refl
    one_mark Expanded = refl
