-- Each kind of step keeps the rule.
use Rattle.std.proofs.Common.{◌≡◌, ℕ, zero, suc, ◌+◌, ◌-◌, ◌%◌, ◌^◌, ◌<◌, ◌≤◌, List, [], ◌∷◌, ◌++◌, length, get_or, set}
use Rattle.std.proofs.Common.{min, All, IsPermutation, inl, inr, sym, refl, ap, ◌∙◌, arith, append_assoc}
use Rattle.std.proofs.Common.{drop, length-append}
use Rattle.std.specs.List.{range_with_len}
use Rattle.std.proofs.lemmas.Bool.{cases_lt}
use Rattle.std.proofs.lemmas.List.{set_comm, append-nil, length-set, get_or-set_same}
use Rattle.std.proofs.lemmas.List.Concat.{flat_map-append}
use Rattle.std.proofs.lemmas.List.Elements.{All-set, All-push, All-head, All-tail, All-drop}
use Rattle.std.proofs.lemmas.List.FromFn.{length-range_with_len, get_or-range_with_len}
use Rattle.std.proofs.lemmas.List.Prefix.{front_rest}
use Rattle.std.proofs.lemmas.List.Sums.{sum_by_push, sum_by-cons}
use Rattle.std.proofs.lemmas.List.Sorted.{IsPermutation-sym, IsPermutation-trans, IsPermutation-append_right}
use Rattle.std.proofs.lemmas.List.Sorted.{IsPermutation-append_left, IsPermutation-append_comm, length_permutation}
use Rattle.std.proofs.lemmas.List.Sorted.{All-permutation}
use Rattle.atomic_table.proofs.Lists.{set_else, set_again, drop_at}
use mathlib.Core.Option.{some, none, some-ne-none}
use lib.ListN.{get_elem?}
use Rattle.atomic_table.specs.Table.{State, keeps, Allows, step, stepped, Splits, Joins, Seen}
use Rattle.claims.specs.declared.view.Draws.{Draws}
use Rattle.claims.specs.declared.view.Size.{Size}
use Rattle.claims.specs.Rule.{places_of, spent_of, seats_of, below, FitsCounter, ClaimsHold, TableHolds, draws}
use Rattle.claims.specs.Rule.{fresh, no_seat, IsDrawStep}

-- one more number is below the next
below_more : (a n m : ℕ) → a + n ≡ m → range_with_len a (suc n) ≡ range_with_len a n ++ m ∷ []
below_more a zero m e = ap (λ (k : ℕ). k ∷ []) (omega arith)
below_more a (suc n) m e = ap (λ (l : List ℕ). a ∷ l) (below_more (a + 1) n m (omega arith))

-- what all seats say together, once one of them drew more
record Changed (before after : List Draws) (v w : Draws) (more : List ℕ) : Type 0 where
  drawn : IsPermutation (places_of before ++ more) (places_of after)
  spent : spent_of after + v.spent ≡ spent_of before + w.spent
  seats : seats_of after + v.seats ≡ seats_of before + w.seats

module _ (v w : Draws) (more : List ℕ) (is : w.places ≡ v.places ++ more) where
  changed_there : (views : List Draws) (id : ℕ) (u : Draws) → get_elem? views id ≡ some u
      → Changed (set views id v) (set views id w) v w more
  changed_there [] id u at = absurd (some-ne-none u (sym at))
  changed_there (x ∷ xs) zero u at = record {
    drawn = rw is (simp append_assoc
        (IsPermutation-append_right v.places _ _ (IsPermutation-append_comm (places_of xs) more)));
    spent = omega (arith, sum_by-cons (λ (d : Draws). d.spent));
    seats = omega (arith, sum_by-cons (λ (d : Draws). d.seats));
  }
  changed_there (x ∷ xs) (suc id) u at =
      let rest = changed_there xs id u at in
      record {
        drawn = rw append_assoc (IsPermutation-append_right x.places _ _ rest.drawn);
        spent = omega (arith, sum_by-cons (λ (d : Draws). d.spent));
        seats = omega (arith, sum_by-cons (λ (d : Draws). d.seats));
      }

-- a seat drew more
changed : (views : List Draws) (id : ℕ) (v w : Draws) (more : List ℕ) → get_elem? views id ≡ some v
    → w.places ≡ v.places ++ more → Changed views (set views id w) v w more
changed views id v w more at is = rw (set_again views id v at) at (changed_there v w more is views id v at)

-- all seats are the others and this one
with_others : (views : List Draws) (id : ℕ) (v : Draws) → get_elem? views id ≡ some v
    → Changed (set views id no_seat) views no_seat v v.places
with_others views id v at = rw (set_again views id v at) at (changed_there no_seat v v.places refl views id v at)

spent_at_most : (size : Size) (views : List Draws) → All (FitsCounter size) views → spent_of views ≤ seats_of views
spent_at_most size [] h = omega arith
spent_at_most size (u ∷ us) h =
    omega (
      arith,
      spent_at_most size us (All-tail (FitsCounter size) u us h),
      (All-head (FitsCounter size) u us h).stated,
      sum_by-cons {X = Draws},
    )

-- seats that are none drew nothing
nothing : (size : Size) (views : List Draws) → All (FitsCounter size) views → seats_of views ≡ 0 → places_of views ≡ []
nothing size [] h no_seats = refl
nothing size (u ∷ us) h no_seats =
    let seats = sum_by-cons (λ (d : Draws). d.seats) u us in
    rw ((All-head (FitsCounter size) u us h).idle (omega arith))
    (nothing size us (All-tail (FitsCounter size) u us h) (omega arith))

drawn_length : (n : ℕ) (places : List ℕ) → IsPermutation (below n) places → length places ≡ n
drawn_length n places drawn = length_permutation _ _ drawn ∙ length-range_with_len 0 n

fits_of : (size : Size) (views : List Draws) (id : ℕ) (v : Draws) → All (FitsCounter size) views
    → get_elem? views id ≡ some v → FitsCounter size v
fits_of size views id v h at =
    All-head (FitsCounter size) v (drop (suc id) views)
    (rw (drop_at views id v at) at (All-drop (FitsCounter size) id views h))

no_seat_fits : (size : Size) → FitsCounter size no_seat
no_seat_fits size = record { stated = omega arith; idle = λ _. refl; knows = λ some_part. absurd (omega arith) }

-- each place that a seat drew is below the word
drawn_below : (size : Size) (n : ℕ) (views : List Draws) (id : ℕ) (v : Draws) → ClaimsHold size n views
    → get_elem? views id ≡ some v → All (λ x. x < n) v.places
drawn_below size n views id v h at =
    let others = places_of (set views id no_seat) in
    let all = IsPermutation-trans _ _ _ h.drawn (IsPermutation-sym _ _ (with_others views id v at).drawn) in
    let each : All (λ x. x < n) (below (min n size.len)) =
    λ k d lt. (let here : k < min n size.len = omega (arith, length-range_with_len 0) in
    rw (get_or-range_with_len 0 (min n size.len) k d here) (omega arith)) in
    rw (front_rest (others ++ v.places) others v.places refl) at
    (All-drop (λ x. x < n) (length others) (others ++ v.places) (All-permutation (λ x. x < n) _ _ all each))

-- after a draw by a seat of which fewer found none left than it is
module _ (size : Size) (room : size.len + size.seats < 2 ^ 64) (id : ℕ) (v : Draws) (less : v.spent < v.seats)
    (knows : v.size ≡ size) (s : State (Unit {0}) Draws) (kept : TableHolds size s)
    (at : get_elem? s.views id ≡ some v) where
  abbrev word : ℕ
  word = get_or s.words 0 0

  draw_kept : (places more : List ℕ) (spent : ℕ) → places ≡ v.places ++ more → spent + length more ≡ v.spent + 1
      → below (min (word + 1) size.len) ≡ below (min word size.len) ++ more → (c : List (ℕ × Unit {0}))
      → TableHolds size (stepped s 0 ((word + 1) % 2 ^ 64) id c (draws v.seats places spent v.size) keeps)
  draw_kept places more spent drew counts grown c =
      let h = kept.1 in
      let w : Draws = draws v.seats places spent v.size in
      let all = changed s.views id v w more at drew in
      let after : ClaimsHold size (word + 1) (set s.views id w) = record {
        drawn = rw grown (IsPermutation-trans _ _ _ (IsPermutation-append_left more _ _ h.drawn) all.drawn);
        counted = omega (arith, length_permutation _ _ all.drawn, length-append (places_of s.views) more);
        seats = omega arith;
        fits = All-set (FitsCounter size) s.views id w
            (record { stated = omega arith; idle = λ e. absurd (omega arith); knows = λ _. knows }) h.fits;
      } in
      let small : (word + 1) % 2 ^ 64 ≡ word + 1 =
      omega (arith, drawn_length _ _ after.drawn, spent_at_most size _ after.fits) in (
        length-set s.words 0 _ ∙ kept.0,
        rw (get_or-set_same s.words 0 ((word + 1) % 2 ^ 64) 0 (omega (arith, kept.0)), small) after,
      )

pub draws_kept : (size : Size) → size.len + size.seats < 2 ^ 64 → (slots id : ℕ) (v : Draws) (c : List (ℕ × Unit {0}))
    → v.spent < v.seats → v.size ≡ size
    → Allows (TableHolds size) slots id (v, c) 0 (λ n. (n + 1) % 2 ^ 64) (IsDrawStep (step slots 0 1 0 none) (v, c))
draws_kept size room slots id v c less knows s kept homes at small =
    let n : ℕ = get_or s.words 0 0 in
    let same : v.size.len ≡ size.len = ap (λ (u : Size). u.len) knows in
    let next = draw_kept size room id v less knows s kept at in
    elim (cases_lt n size.len) [
      | inl lt ↦
          let last : min n size.len ≡ n = omega arith in
          let more : min (n + 1) size.len ≡ suc n = omega arith in (
            draws v.seats (v.places ++ n ∷ []) v.spent v.size,
            keeps,
            tt,
            next _ (n ∷ []) v.spent refl refl (rw (more, last) (below_more 0 n n (omega arith))) c,
            (
              record {
                place = λ _. (drawn_below size n s.views id v kept.1 at, refl);
                none_left = λ le. absurd (omega arith);
              },
              refl,
            ),
          )
      | inr le ↦
          let all : min (n + 1) size.len ≡ min n size.len = omega arith in (
            draws v.seats v.places (v.spent + 1) v.size,
            keeps,
            tt,
            next _ [] (v.spent + 1) (sym (append-nil v.places)) (omega arith) (rw all (sym (append-nil _))) c,
            (record { place = λ lt. absurd (omega arith); none_left = λ _. refl }, refl),
          )
    ]

-- one seat is cut off a seat
pub cut_kept : (size : Size) (id : ℕ) (v : Draws) → 1 < v.seats → v.spent ≡ 0 → v.size ≡ size
    → Splits (TableHolds size) id v (draws (v.seats - 1) v.places v.spent v.size) (fresh 1 v.size)
cut_kept size id v two none_fits knows s kept at =
    let h = kept.1 in
    let l : Draws = draws (v.seats - 1) v.places v.spent v.size in
    let r : Draws = fresh 1 v.size in
    let left : List Draws = set s.views id l in
    let all = changed s.views id v l [] at (sym (append-nil v.places)) in
    let drawn : IsPermutation (below (min (get_or s.words 0 0) size.len)) (places_of (left ++ r ∷ [])) =
    simp (flat_map-append, append-nil) (IsPermutation-trans _ _ _ h.drawn (simp append-nil at all.drawn)) in
    let spent = sum_by_push (λ (d : Draws). d.spent) left r in
    let seats = sum_by_push (λ (d : Draws). d.seats) left r in (
      kept.0,
      record {
        drawn = drawn;
        counted = omega (arith, drawn_length _ _ drawn, drawn_length _ _ h.drawn);
        seats = omega arith;
        fits = All-push (FitsCounter size) left r
            (All-set (FitsCounter size) s.views id l
            (record { stated = omega arith; idle = λ e. absurd (omega arith); knows = λ _. knows }) h.fits)
            (record { stated = omega arith; idle = λ _. refl; knows = λ _. knows });
      },
    )

-- a seat takes in what another drew
pub join_kept : (size : Size) (id : ℕ) (v : Draws) (other : ℕ) (w : Draws) → v.size ≡ size
    → Joins (TableHolds size) id v other w (draws (v.seats + w.seats) (v.places ++ w.places) (v.spent + w.spent) v.size)
    (no_seat)
join_kept size id v other w knows s kept at apart at' =
    let h = kept.1 in
    let both : Draws = draws (v.seats + w.seats) (v.places ++ w.places) (v.spent + w.spent) v.size in
    let was : get_elem? s.views other ≡ some w = sym (set_else s.views id other both apart) ∙ at' in
    let without : List Draws = set s.views other no_seat in
    let here : get_elem? without id ≡ some v = set_else s.views other id no_seat (λ e. apart (sym e)) ∙ at in
    let out = with_others s.views other w was in
    let in' = rw (set_comm s.views other id no_seat both apart) at (changed without id v both w.places here refl) in
    let moved = IsPermutation-trans _ _ _ (IsPermutation-sym _ _ out.drawn) in'.drawn in
    let drawn = IsPermutation-trans _ _ _ h.drawn moved in
    let mine = fits_of size s.views id v h.fits at in
    let others = fits_of size s.views other w h.fits was in (
      kept.0,
      record {
        drawn = drawn;
        counted = omega (arith, length_permutation _ _ drawn, length_permutation _ _ h.drawn);
        seats = omega arith;
        fits = All-set (FitsCounter size) (set s.views id both) other no_seat (no_seat_fits size)
            (All-set (FitsCounter size) s.views id both
            (record {
              stated = omega arith;
              idle = λ e. rw (mine.idle (omega arith)) (others.idle (omega arith));
              knows = λ _. knows;
            }) h.fits);
      },
    )

-- what the last state says of the seat that is every seat, for a counter of an equal size whose word was read
pub ends_at : (key size : Size) (id : ℕ) (v : Draws) (s : State (Unit {0}) Draws) (word : ℕ)
    → Seen (TableHolds key) id v s → key ≡ size → v.seats ≡ size.seats → get_or s.words 0 0 ≡ word
    → IsPermutation (below (min word size.len)) v.places × (word ≡ min word size.len + v.spent)
ends_at key size id v s word seen is all read =
    let h : ClaimsHold size word s.views = rw (is, read) at seen.0.1 in
    let others = set s.views id no_seat in
    let join = with_others s.views id v seen.1 in
    let fits = All-set (FitsCounter size) s.views id no_seat (no_seat_fits size) h.fits in
    let none = nothing size others fits (omega arith) in (
      IsPermutation-trans _ _ _ h.drawn (IsPermutation-sym _ _ (rw none at join.drawn)),
      omega (arith, drawn_length _ _ h.drawn, spent_at_most size others fits),
    )
