-- The places among the entries that are looked for again and again.
use Rattle.std.proofs.Common.{◌≡◌, ◌≢◌, ℕ, zero, suc, ◌+◌, ◌<◌, ◌≤◌, inl, inr, Bool, true, false, not, cond, Option}
use Rattle.std.proofs.Common.{Some, None, List, [], ◌∷◌, ◌++◌, length, map, refl, sym, ap, ◌∙◌, arith, slice_get}
use Rattle.std.proofs.Common.{IfSome, position, length-append, ltb, get_or, le-ltb, lt-ltb, ltb-true}
use Rattle.std.specs.List.{position_or_len}
use Rattle.std.proofs.lemmas.Bool.{cases_Bool, cases_lt, not-false}
use Rattle.std.proofs.lemmas.List.Sums.{position_or_len_is}
use Rattle.std.proofs.lemmas.Option.{cond_some, same_Some, slice_get-get_or, slice_get_within}
use Rattle.tree_machine.proofs.Lists.{get-append_cases, get-append_left, get-map}
use Rattle.book.specs.Entries.{Mark, Open, Taken, Expanded, Entry, Successor, At, IsTaken, is_open, is_expanded, opened}
use Rattle.book.specs.Entries.{with_mark}
use Rattle.replay.specs.Findings.{is_sound}
use Rattle.book.specs.Slots.{IsFirstLeft, IsOpenFrom, AreCursors}
use Rattle.book.proofs.EntryLemmas.{each-with_mark, get-front, length-with_mark}
use Rattle.book.proofs.Lists.{get-single}
use Rattle.book.proofs.Next.{first_passes, none_passes}
use Rattle.book.proofs.Marks.{expanded_fails, left_passes, open_fails, open_passes}

-- where none below n passes, and the one there does, it is the first; n may be past the end
position_is : {X : Type 0} (p : X → Bool) (xs : List X) (n : ℕ) → n ≤ length xs
    → ((k : ℕ) (y : X) → slice_get xs k ≡ Some y → k < n → p y ≡ false)
    → ((y : X) → slice_get xs n ≡ Some y → p y ≡ true) → position p xs ≡ cond (ltb n (length xs)) (Some n) None
position_is p [] n within below at = let zero_at : n ≡ 0 = omega arith in rw zero_at refl
position_is p (x ∷ xs) n within below at =
    let get = slice_get-get_or (x ∷ xs) in
    rw (position_or_len_is p (x ∷ xs) n x within (λ k less. below k (get_or (x ∷ xs) k x) (get k x (omega arith)) less)
    (λ less. at (get_or (x ∷ xs) n x) (get n x less))) refl

module _ {X : Type 0} (p : X → Bool) (xs : List X) where
  -- the first that passes is one of the list
  pub first_within : (i : ℕ) → position p xs ≡ Some i → i < length xs
  first_within i h = let f = first_passes p xs i h in slice_get_within xs i f.0 f.1

  -- one that passes, and before which none does, is the first
  pub first_is : (i : ℕ) (x : X) → slice_get xs i ≡ Some x → p x ≡ true
      → ((k : ℕ) (y : X) → slice_get xs k ≡ Some y → k < i → p y ≡ false) → position p xs ≡ Some i
  first_is i x at passes before =
      let within : i < length xs = slice_get_within xs i x at in
      rw (lt-ltb i (length xs) within) at
      (position_is p xs i (omega arith) before (λ y there. rw (same_Some y x (sym there ∙ at)) passes))

  pub none_is : ((k : ℕ) (y : X) → slice_get xs k ≡ Some y → p y ≡ false) → position p xs ≡ None
  none_is fails =
      rw (le-ltb (length xs) (length xs) (omega arith)) at
      (position_is p xs (length xs) (omega arith) (λ k y there _. fails k y there)
      (λ y there. absurd (omega (arith, slice_get_within xs (length xs) y there))))

-- what is so of each below a number, and of the one there, is so of each below the next
pub below_next : {X : Type 0} (P : X → Type 0) (xs : List X) (n : ℕ) (x : X) → slice_get xs n ≡ Some x → P x
    → ((i : ℕ) (y : X) → slice_get xs i ≡ Some y → i < n → P y) → (i : ℕ) (y : X) → slice_get xs i ≡ Some y → i < n + 1
    → P y
below_next P xs n x at is before i y there less =
    elim (cases_lt i n) [
      | inl l ↦ before i y there l
      | inr ge ↦ (let e : i ≡ n = omega arith in let same : y ≡ x = cc in rw same is)
    ]

abbrev is_unsound : {S : Type 0} → Entry S → Bool
is_unsound e = not (is_sound e.finding)

-- a mark does not change which entry is the first that is not sound
pub fault-with_mark : {S : Type 0} (es : List (Entry S)) (i : ℕ) (k : Mark)
    → position (λ (e : Entry S). not (is_sound e.finding)) (with_mark es i k)
    ≡ position (λ (e : Entry S). not (is_sound e.finding)) es
fault-with_mark es i k = rw (first es i, length-with_mark es i k) refl
  where
    first : {S : Type 0} (es : List (Entry S)) (i : ℕ)
        → position_or_len is_unsound (with_mark es i k) ≡ position_or_len is_unsound es
    first [] i = refl
    first (e ∷ es) zero = refl
    first (e ∷ es) (suc i) = ap (λ n. cond (not (is_unsound e)) (1 + n) 0) (first es i)

module _ {S : Type 0} (es : List (Entry S)) where
  -- more entries leave the first fault where it is
  pub fault-append : (fs : List (Entry S)) (a : ℕ) → position (λ (e : Entry S). not (is_sound e.finding)) es ≡ Some a
      → position (λ (e : Entry S). not (is_sound e.finding)) (es ++ fs) ≡ Some a
  fault-append fs a h =
      let first = first_passes is_unsound es a h in
      let within : a < length es = slice_get_within es a first.0 first.1 in
      first_is is_unsound (es ++ fs) a first.0 (get-append_left es fs a first.0 first.1) first.2
      (λ j f there less. first.3 j f less (get-front es fs j f there (omega arith)))

  -- where there is no fault, all are sound
  pub all_sound : (fs : List (Entry S)) → position (λ (e : Entry S). not (is_sound e.finding)) es ≡ None
      → (i : ℕ) (e : Entry S) → At (es ++ fs) i e → i < length es → is_sound e.finding ≡ true
  all_sound fs h i e at less =
      not-false (is_sound e.finding) (none_passes is_unsound es h i e (get-front es fs i e at less))

module _ {S : Type 0} {es : List (Entry S)} {next_open first_left : ℕ} {fault : Option ℕ}
    (cursors : AreCursors es next_open first_left fault) where
  pub open_is : position (λ (e : Entry S). is_open e.mark) es ≡ cond (ltb next_open (length es)) (Some next_open) None
  open_is =
      position_is (λ (e : Entry S). is_open e.mark) es next_open cursors.within
      (λ k y there less. open_fails y.mark (cursors.below k y there less))
      (λ y there. open_passes y.mark (cursors.above next_open y there (omega arith)))

  pub left_is : position (λ (e : Entry S). not (is_expanded e.mark)) es
      ≡ cond (ltb first_left (length es)) (Some first_left) None
  left_is =
      position_is (λ (e : Entry S). not (is_expanded e.mark)) es first_left cursors.left.within
      (λ k y there less. expanded_fails y.mark (cursors.left.expanded k y there less))
      (λ y there. left_passes y.mark (cursors.left.stops y there))

  -- all entries from the first open one on are open
  pub open_from : (r : Option ℕ) → r ≡ cond (ltb next_open (length es)) (Some next_open) None
      → IfSome r (IsOpenFrom es)
  open_from None is = tt
  open_from (Some i) is = rw (← (cond_some (ltb next_open (length es)) next_open i (sym is)).1) cursors.above

  -- where some entry is open, the cursor is at the first
  pub cursor_is : (i : ℕ) → position (λ (e : Entry S). is_open e.mark) es ≡ Some i
      → (i ≡ next_open) × (next_open < length es)
  cursor_is i first =
      let both = cond_some (ltb next_open (length es)) next_open i (sym open_is ∙ first) in
      (sym both.1, ltb-true next_open (length es) both.0)

  -- the first open entry is taken
  pub cursors_taken : next_open < length es → AreCursors (with_mark es next_open Taken) (next_open + 1) first_left fault
  cursors_taken some =
      let i = next_open in
      let same_length : length (with_mark es i Taken) ≡ length es = length-with_mark es i Taken in
      record {
        below = each-with_mark (λ j d. j < i + 1 → d.mark ≢ Open) es i Taken (λ e at less q. cc)
            (λ j d at apart less. cursors.below j d at (omega arith));
        above = each-with_mark (λ j d. i + 1 ≤ j → d.mark ≡ Open) es i Taken (λ e at le. absurd (omega arith))
            (λ j d at apart le. cursors.above j d at (omega arith));
        within = omega arith;
        left = record {
          expanded = each-with_mark (λ j d. j < first_left → d.mark ≡ Expanded) es i Taken
              (λ e at less. cc (cursors.above i e at (omega arith), cursors.left.expanded i e at less))
              (λ j d at apart less. cursors.left.expanded j d at less);
          stops = (λ d at. each-with_mark (λ j d. j ≡ first_left → d.mark ≢ Expanded) es i Taken (λ e at is q. cc)
              (λ j d at apart is. cursors.left.stops d (rw is at at)) first_left d at refl);
          within = omega (arith, cursors.left.within);
        };
        first_fault = cursors.first_fault ∙ sym (fault-with_mark es i Taken);
      }

  -- a taken entry is expanded
  pub still_expanded : (i : ℕ) (j : ℕ) (d : Entry S) → At (with_mark es i Expanded) j d → j < first_left
      → d.mark ≡ Expanded
  still_expanded i =
      each-with_mark (λ j d. j < first_left → d.mark ≡ Expanded) es i Expanded (λ e at less. refl)
      (λ j d at apart less. cursors.left.expanded j d at less)

  pub cursors_expanded : (i : ℕ) → IsTaken es i → (left' : ℕ) → IsFirstLeft (with_mark es i Expanded) left'
      → AreCursors (with_mark es i Expanded) next_open left' fault
  cursors_expanded i taken left' is_left = record {
    below = each-with_mark (λ j d. j < next_open → d.mark ≢ Open) es i Expanded (λ e at less q. cc)
        (λ j d at apart less. cursors.below j d at less);
    above = each-with_mark (λ j d. next_open ≤ j → d.mark ≡ Open) es i Expanded
        (λ e at le. cc (cursors.above i e at le, taken.1, taken.2, at)) (λ j d at apart le. cursors.above j d at le);
    within = omega (arith, cursors.within, length-with_mark es i Expanded);
    left = is_left;
    first_fault = cursors.first_fault ∙ sym (fault-with_mark es i Expanded);
  }

  -- open entries are put behind
  pub cursors_appended : (i : ℕ) (xs : List (Successor S)) (fault' : Option ℕ)
      → fault' ≡ position (λ (e : Entry S). not (is_sound e.finding)) (es ++ map (opened i) xs)
      → AreCursors (es ++ map (opened i) xs) next_open first_left fault'
  cursors_appended i xs fault' is_fault =
      let old = get-front es (map (opened i) xs) in
      let place = get-append_cases es (map (opened i) xs) in
      let longer = length-append es (map (opened i) xs) in
      record {
        below = (λ j d at less. cursors.below j d (old j d at (omega (arith, cursors.within))) less);
        above = (λ j d at le. elim (place j d at) [
          | inl o ↦ cursors.above j d o le
          | inr r ↦ rw (get-map (opened i) xs r.0 d r.2).2 refl
        ]);
        within = omega (arith, cursors.within);
        left = record {
          expanded = (λ j d at less. cursors.left.expanded j d (old j d at (omega (arith, cursors.left.within))) less);
          stops = (λ d at. elim (place first_left d at) [
            | inl o ↦ cursors.left.stops d o
            | inr r ↦ (λ q. cc ((get-map (opened i) xs r.0 d r.2).2, q))
          ]);
          within = omega (arith, cursors.left.within);
        };
        first_fault = is_fault;
      }

-- the one entry is the first that is not sound, if it is not
pub fault_of_one : {S : Type 0} (e : Entry S)
    → position (λ (d : Entry S). not (is_sound d.finding)) (e ∷ []) ≡ cond (is_sound e.finding) None (Some 0)
fault_of_one e = elim (cases_Bool (is_sound e.finding)) [ inl sound ↦ rw sound refl | inr fault ↦ rw fault refl ]

-- one open entry
pub cursors_one : {S : Type 0} (e : Entry S) → e.mark ≡ Open → (fault : Option ℕ)
    → fault ≡ position (λ (d : Entry S). not (is_sound d.finding)) (e ∷ []) → AreCursors (e ∷ []) 0 0 fault
cursors_one e is_open_one fault is_fault = record {
  below = (λ i d at less. absurd (omega arith));
  above = (λ i d at le. rw (← (get-single e i d at).1) is_open_one);
  within = omega arith;
  left = record {
    expanded = (λ i d at less. absurd (omega arith));
    stops = (λ d at q. cc ((get-single e 0 d at).1));
    within = omega arith;
  };
  first_fault = is_fault;
}
