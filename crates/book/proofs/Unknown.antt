-- What `unknown` keeps of a list of successors.
use Rattle.std.proofs.Common.{◌≡◌, ℕ, zero, suc, ◌⊎◌, inl, inr, Bool, true, false, Some, List, [], ◌∷◌, ◌++◌, ◌≤◌}
use Rattle.std.proofs.Common.{arith, length, refl, sym, ap, ◌∙◌, ◌||◌, slice_get}
use Rattle.std.specs.List.{list_any}
use Rattle.std.proofs.lemmas.List.Folds.{Any-from_list_any, list_any-append}
use Rattle.std.proofs.lemmas.Bool.{cases_Bool, or_cases, or_parts}
use Rattle.std.proofs.lemmas.Option.{slice_get_read}
use Rattle.tree_machine.proofs.Lists.{get-map, map-get}
use Rattle.replay.specs.Schedule.{StepMachine, Merges}
use Rattle.book.specs.Entries.{Entry, Successor, At, states}
use Rattle.book.specs.Unknown.{knows, unknown}

-- an element passes the test
pub list_any-true : {X : Type 0} (test : X → Bool) (xs : List X) → list_any test xs ≡ true
    → (k : ℕ) × (x : X) × (slice_get xs k ≡ Some x) × (test x ≡ true)
list_any-true test xs h =
    let any = Any-from_list_any test xs h in
    (any.0, any.1, slice_get_read xs (length xs) any.0 any.1 refl any.2 (sym any.3), any.4)

-- no element does
pub list_any-false : {X : Type 0} (test : X → Bool) (xs : List X) → list_any test xs ≡ false → (k : ℕ) (x : X)
    → slice_get xs k ≡ Some x → test x ≡ false
list_any-false test [] h k x a = cc
list_any-false test (y ∷ xs) h zero x a = let e : y ≡ x = cc in rw (← e) (or_parts (test y) (list_any test xs) h).0
list_any-false test (y ∷ xs) h (suc k) x a = list_any-false test xs (or_parts (test y) (list_any test xs) h).1 k x a

module _ {S : Type 0} where
  pub at-states : (es : List (Entry S)) (k : ℕ) (s : S) → slice_get (states es) k ≡ Some s → (e : Entry S) × At es k e
      × (e.state ≡ s)
  at-states es k s h = let of = get-map (λ (e : Entry S). e.state) es k s h in (of.0, of.1, sym of.2)

  pub states-at : (es : List (Entry S)) (k : ℕ) (e : Entry S) → At es k e → slice_get (states es) k ≡ Some e.state
  states-at es k e h = map-get (λ (e : Entry S). e.state) es k e h

pub get-cons_cases : {X : Type 0} (x : X) (xs : List X) (k : ℕ) (y : X) → slice_get (x ∷ xs) k ≡ Some y
    → ((k ≡ 0) × (x ≡ y)) ⊎ ((j : ℕ) × (k ≡ suc j) × (slice_get xs j ≡ Some y))
get-cons_cases x xs zero y h = inl (refl, (cc))
get-cons_cases x xs (suc k) y h = inr (k, refl, h)

module _ {S : Type 0} (same : S → S → Bool) where
  not_known : (known : List S) (r s : S) → knows same (known ++ r ∷ []) s ≡ false
      → (knows same known s ≡ false) × (same r s ≡ false)
  not_known known r s h =
      let both = or_parts (knows same known s) (knows same (r ∷ []) s) (rw list_any-append at h) in
      (both.0, (or_parts (same r s) false both.1).0)

  -- each is a successor of the list, and its state is not known
  pub unknown_among : (known : List S) (xs : List (Successor S)) (k : ℕ) (y : Successor S)
      → slice_get (unknown same known xs) k ≡ Some y
      → ((i : ℕ) × (slice_get xs i ≡ Some y)) × (knows same known y.state ≡ false)
  unknown_among known [] k y h = cc
  unknown_among known (x ∷ xs) k y h = elim (cases_Bool (knows same known x.state)) [
    | inl e ↦ let r = unknown_among known xs k y (rw e at h) in ((suc r.0.0, r.0.1), r.1)
    | inr e ↦ elim (get-cons_cases x (unknown same (known ++ x.state ∷ []) xs) k y (rw e at h)) [
      | inl l ↦ ((0, ap Some l.1), rw (← l.1) e)
      | inr n ↦ let r = unknown_among (known ++ x.state ∷ []) xs n.0 y n.2 in
          ((suc r.0.0, r.0.1), (not_known known x.state y.state r.1).0)
    ]
  ]

pub length-unknown : {S : Type 0} (same : S → S → Bool) (known : List S) (xs : List (Successor S))
    → length (unknown same known xs) ≤ length xs
length-unknown same known [] = omega arith
length-unknown same known (x ∷ xs) =
    elim (cases_Bool (knows same known x.state)) [
      | inl is ↦ rw is (omega (arith, length-unknown same known xs))
      | inr new ↦ rw new (omega (arith, length-unknown same (known ++ x.state ∷ []) xs))
    ]

module _ {S : Type 0} (m : StepMachine S) (same : S → S → Bool) (merges : Merges m same) where
  pub unknown_is : (known : List S) (xs : List (Successor S)) (k : ℕ) (y : Successor S)
      → slice_get (unknown same known xs) k ≡ Some y
      → ((i : ℕ) × (slice_get xs i ≡ Some y)) × (knows same known y.state ≡ false)
  unknown_is = unknown_among same

  -- no two have the same state
  pub unknown_apart : (known : List S) (xs : List (Successor S)) (i j : ℕ) (y z : Successor S)
      → slice_get (unknown same known xs) i ≡ Some y → slice_get (unknown same known xs) j ≡ Some z
      → same y.state z.state ≡ true → i ≡ j
  unknown_apart known [] i j y z a b h = cc
  unknown_apart known (x ∷ xs) i j y z a b h = elim (cases_Bool (knows same known x.state)) [
    | inl e ↦ unknown_apart known xs i j y z (rw e at a) (rw e at b) h
    | inr e ↦
        let rest = known ++ x.state ∷ [] in
        let later : (k : ℕ) (w : Successor S) → slice_get (unknown same rest xs) k ≡ Some w
        → same x.state w.state ≡ false =
        λ k w at. (not_known same known x.state w.state (unknown_is rest xs k w at).1).1 in
        elim (get-cons_cases x (unknown same rest xs) i y (rw e at a)) [
          | inl l ↦ elim (get-cons_cases x (unknown same rest xs) j z (rw e at b)) [
            | inl r ↦ l.0 ∙ sym r.0
            | inr r ↦ cc (l.1, later r.0 z r.2)
          ]
          | inr l ↦ elim (get-cons_cases x (unknown same rest xs) j z (rw e at b)) [
            | inl r ↦ cc (r.1, merges.turned y.state z.state h, later l.0 y l.2)
            | inr r ↦ l.1 ∙ ap suc (unknown_apart rest xs l.0 r.0 y z l.2 r.2 h) ∙ sym r.1
          ]
        ]
  ]

  -- the state of each successor is known, or that of one that is kept
  pub known_or_kept : (known : List S) (xs : List (Successor S)) (i : ℕ) (x : Successor S) → slice_get xs i ≡ Some x
      → (knows same known x.state ≡ true) ⊎
      ((k : ℕ) × (y : Successor S) × (slice_get (unknown same known xs) k ≡ Some y) × (same y.state x.state ≡ true))
  known_or_kept known [] i x a = cc
  known_or_kept known (w ∷ xs) i x a = elim (cases_Bool (knows same known w.state)) [
    | inl e ↦ rw e (elim (get-cons_cases w xs i x a) [
      | inl l ↦ inl (rw (← l.1) e)
      | inr r ↦ known_or_kept known xs r.0 x r.2
    ])
    | inr e ↦ rw e (elim (get-cons_cases w xs i x a) [
      | inl l ↦ inr (0, w, refl, rw (← l.1) (merges.itself w.state))
      | inr r ↦ elim (known_or_kept (known ++ w.state ∷ []) xs r.0 x r.2) [
        | inl k ↦ elim (or_cases (knows same known x.state) (same w.state x.state || false) (rw list_any-append at k)) [
          | inl old ↦ inl old
          | inr new ↦ inr (0, w, refl, elim (or_cases (same w.state x.state) false new) [ inl q ↦ q | inr q ↦ cc ])
        ]
        | inr k ↦ inr (suc k.0, k.1, k.2, k.3)
      ]
    ])
  ]
