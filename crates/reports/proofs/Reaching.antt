-- For each number of steps there is a number of states that they reach.
use Rattle.std.proofs.Common.{◌≡◌, ℕ, zero, suc, ◌<◌, ◌≤◌, ◌≢◌, inl, inr, Bool, true, false, Option, Some, None, List}
use Rattle.std.proofs.Common.{[]}
use Rattle.std.proofs.Common.{◌∷◌, ◌++◌, length, map, refl, sym, ap, ◌∙◌, arith, slice_get, get_or, Contains}
use Rattle.std.specs.Cmp.{IsEquivalence}
use Rattle.std.specs.List.{list_any}
use Rattle.std.proofs.lemmas.Bool.{true≢false, cases_eq, false_from_ne_true, true_from_ne_false}
use Rattle.std.proofs.lemmas.List.Elements.{Contains-append_left, Contains-append_right, Contains-append_cases}
use Rattle.std.proofs.lemmas.Map.Keys.{IsDistinct-from_apart}
use Rattle.std.proofs.lemmas.Map.Made.{length-le_from_is_member}
use Rattle.std.proofs.lemmas.Option.{option_and_then_some, slice_get-get_or}
use Rattle.lin.proofs.Lists.{Contains-cases, Contains-slice_get, not-Contains-nil, slice_get-Contains}
use Rattle.tree_machine.proofs.Lists.{get-append_cases, get-map, map-get}
use Rattle.book.specs.declared.successor.Successor.{Successor}
use Rattle.replay.specs.declared.finding.Finding.TheVariants.{Astray}
use Rattle.replay.specs.Schedule.{AreOneBy, StepMachine, IsMachine, IsReachableWithin, Merges, run}
use Rattle.book.specs.Unknown.{unknown}
use Rattle.book.specs.Counts.{IsCount}
use Rattle.book.proofs.Unknown.{unknown_is, unknown_apart, known_or_kept, list_any-false, list_any-true}

same_test : (a b : Bool) → (a ≡ true → b ≡ true) → (b ≡ true → a ≡ true) → a ≡ b
same_test true b there back = sym (there refl)
same_test false true there back = back refl
same_test false false there back = refl

module _ {S : Type 0} {m : StepMachine S} {same : S → S → Bool} (merges : Merges m same) where
  laws : IsEquivalence same
  laws = record {
    refl = merges.itself;
    symm = (λ x y. same_test (same x y) (same y x) (merges.turned x y) (merges.turned y x));
    congr = (λ x y z one. same_test (same x z) (same y z) (merges.joined y x z (merges.turned x y one))
        (merges.joined x y z one));
  }

  -- states that n steps reach, no two of which count as one, are at most as many as n steps reach
  pub at_most : {n k : ℕ} → IsCount m (AreOneBy same) n k → (ys : List S)
      → ((i j : ℕ) (x y : S) → slice_get ys i ≡ Some x → slice_get ys j ≡ Some y → same x y ≡ true → i ≡ j)
      → ((i : ℕ) (x : S) → slice_get ys i ≡ Some x → IsReachableWithin m n x) → length ys ≤ k
  at_most count ys apart reached =
      let distinct = IsDistinct-from_apart same ys (λ i j d less within.
      false_from_ne_true (same (get_or ys i d) (get_or ys j d)) (λ one.
      omega (
        arith,
        apart i j (get_or ys i d) (get_or ys j d) (slice_get-get_or ys i d (omega arith))
            (slice_get-get_or ys j d within) one,
      ))) in
      let fewer = length-le_from_is_member laws ys count.states distinct (λ q among.
      let y = list_any-true (same q) ys among in
      let x = count.all y.1 (reached y.0 y.1 y.2) in
      let one = merges.joined q y.1 x.1 y.3 (merges.turned x.1 y.1 x.3) in
      true_from_ne_false (list_any (same q) count.states) (λ none.
      true≢false (sym one ∙ list_any-false (same q) count.states none x.0 x.1 x.2))) in
      omega (arith, fewer, count.many)

module _ {S : Type 0} (m : StepMachine S) (same : S → S → Bool) (merges : Merges m same) (known : List S)
    (xs : List (Successor S)) where
  abbrev fresh : List S
  fresh = map (λ (z : Successor S). z.state) (unknown same known xs)

  none_known : (i l : ℕ) (s r : S) → slice_get known i ≡ Some s → slice_get fresh l ≡ Some r → same s r ≡ true → ⊥
  none_known i l s r at there alike =
      let b = get-map (λ (z : Successor S). z.state) (unknown same known xs) l r there in
      let new = (unknown_is m same merges known xs l b.0 b.1).1 in
      true≢false (sym (rw b.2 at alike) ∙ list_any-false (λ (v : S). same v b.0.state) known new i s at)

  -- states that are apart, with those of the successors that are not known among them
  pub joined_apart :
      ((i j : ℕ) (x y : S) → slice_get known i ≡ Some x → slice_get known j ≡ Some y → same x y ≡ true → i ≡ j)
      → (j k : ℕ) (x y : S) → slice_get (known ++ fresh) j ≡ Some x → slice_get (known ++ fresh) k ≡ Some y
      → same x y ≡ true → j ≡ k
  joined_apart apart j k x y at_j at_k h =
      elim (get-append_cases known fresh j x at_j) [
        | inl l ↦ elim (get-append_cases known fresh k y at_k) [
          | inl r ↦ apart j k x y l r h
          | inr r ↦ absurd (none_known j r.0 x y l r.2 h)
        ]
        | inr l ↦ elim (get-append_cases known fresh k y at_k) [
          | inl r ↦ absurd (none_known k l.0 y x r l.2 (merges.turned x y h))
          | inr r ↦ (
              let a = get-map (λ (z : Successor S). z.state) (unknown same known xs) l.0 x l.2 in
              let b = get-map (λ (z : Successor S). z.state) (unknown same known xs) r.0 y r.2 in
              let e = unknown_apart m same merges known xs l.0 r.0 a.0 b.0 a.1 b.1 (rw (a.2, b.2) at h) in
              omega (arith, l.1, r.1, e))
        ]
      ]

-- ---- the states that schedules reach

module _ {S : Type 0} (m : StepMachine S) where
  -- the states that some steps from r lead to: none, or one by a thread below k, and then `later`
  abbrev through : (S → List S) → Option S → List S
  through later None = []
  through later (Some u) = later u

  abbrev by_threads : (S → List S) → S → ℕ → List S
  by_threads later r zero = r ∷ []
  by_threads later r (suc k) = by_threads later r k ++ through later (m.step r k)

  -- those that at most n steps lead to
  abbrev near : ℕ → S → List S
  near zero r = r ∷ []
  near (suc n) r = by_threads (near n) r m.threads

  abbrev Reaches : ℕ → S → S → Type 0
  Reaches n r x = (c : List ℕ) × (length c ≤ n) × (run m r c ≡ Some x)

  only : (n : ℕ) (r x : S) → Contains (r ∷ []) x → Reaches n r x
  only n r x among = elim (Contains-cases r [] x among) [
    | inl e ↦ ([], omega arith, ap Some e)
    | inr none ↦ absurd (not-Contains-nil x none)
  ]

  of_threads : (n : ℕ) (later : S → List S) → ((u x : S) → Contains (later u) x → Reaches n u x) → (r x : S) (k : ℕ)
      → Contains (by_threads later r k) x → Reaches (suc n) r x
  of_threads n later each r x zero among = only (suc n) r x among
  of_threads n later each r x (suc k) among =
      elim (Contains-append_cases (by_threads later r k) (through later (m.step r k)) x among) [
        | inl before ↦ of_threads n later each r x k before
        | inr here ↦ taken (m.step r k) refl here
      ]
    where
      taken : (o : Option S) → m.step r k ≡ o → Contains (through later o) x → Reaches (suc n) r x
      taken None is here = absurd (not-Contains-nil x here)
      taken (Some u) is here = let (c, short, leads) = each u x here in (k ∷ c, omega arith, rw is leads)

  near_reached : (n : ℕ) (r x : S) → Contains (near n r) x → Reaches n r x
  near_reached zero r x among = only zero r x among
  near_reached (suc n) r x among = of_threads n (near n) (near_reached n) r x m.threads among

  no_step : (later : S → List S) (r : S) (k : ℕ) → Contains (by_threads later r k) r
  no_step later r zero = Contains-slice_get (r ∷ []) 0 r refl
  no_step later r (suc k) =
      Contains-append_left (by_threads later r k) (through later (m.step r k)) r (no_step later r k)

  first_step : (later : S → List S) (r u x : S) (t : ℕ) → m.step r t ≡ Some u → Contains (later u) x → (k : ℕ) → t < k
      → Contains (by_threads later r k) x
  first_step later r u x t is among zero below = absurd (omega arith)
  first_step later r u x t is among (suc k) below =
      elim (cases_eq t k) [
        | inl same ↦ Contains-append_right (by_threads later r k) (through later (m.step r k)) x (rw (← same, is) among)
        | inr other ↦ Contains-append_left (by_threads later r k) (through later (m.step r k)) x
            (first_step later r u x t is among k (omega arith))
      ]

  near_all : IsMachine m → (n : ℕ) (r x : S) → Reaches n r x → Contains (near n r) x
  near_all machine zero r x ([], short, leads) = Contains-slice_get (r ∷ []) 0 x leads
  near_all machine zero r x (t ∷ c, short, leads) = absurd (omega arith)
  near_all machine (suc n) r x ([], short, leads) = let e : r ≡ x = cc in rw (← e) (no_step (near n) r m.threads)
  near_all machine (suc n) r x (t ∷ c, short, leads) =
      option_and_then_some (λ (v : S). run m v c) (m.step r t) x leads
      (λ (u : S) (first : m.step r t ≡ Some u) (rest : run m u c ≡ Some x).
      first_step (near n) r u x t first (near_all machine n u x (c, omega arith, rest)) m.threads
      (machine.is_thread r u t first))

-- a successor of the state
abbrev successor : {S : Type 0} → S → Successor S
successor s = record { thread = 0; state = s; finding = Astray }

module _ {S : Type 0} {m : StepMachine S} {same : S → S → Bool} (machine : IsMachine m) (merges : Merges m same) where
  -- the states that n steps reach, as those of successors
  abbrev steps : ℕ → List (Successor S)
  steps n = map successor (near m n m.start)

  -- n steps reach some number of states
  pub count_of : (n : ℕ) → IsCount m (AreOneBy same) n (length (fresh m same merges [] (steps n)))
  count_of n =
      let all = near m n m.start in
      let news = unknown same [] (steps n) in
      record {
        states = fresh m same merges [] (steps n);
        many = refl;
        apart = joined_apart m same merges [] (steps n) (λ i j x y at_i at_j h. absurd (cc));
        reached = (λ i x at.
            let y = get-map (λ (z : Successor S). z.state) news i x at in
            let u = (unknown_is m same merges [] (steps n) i y.0 y.1).0 in
            let s = get-map successor all u.0 y.0 u.1 in
            let is : s.0 ≡ x = cc (y.2, s.2) in
            near_reached m n m.start x (rw is at (Contains-slice_get all u.0 s.0 s.1)));
        all = (λ s way.
            let w = slice_get-Contains all s (near_all m machine n m.start s way) in
            elim (known_or_kept m same merges [] (steps n) w.0 (successor s) (map-get successor all w.0 s w.1)) [
              | inl old ↦ absurd (true≢false (sym old))
              | inr new ↦ (new.0, new.1.state, map-get (λ (z : Successor S). z.state) news new.0 new.1 new.2, new.3)
            ]);
      }
