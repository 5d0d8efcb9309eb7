-- Rows put under keys that are new.
use Rattle.std.proofs.Common.{◌≡◌, ℕ, zero, suc, false, Bool, cond, Option, Some, None, List, [], ◌∷◌, ◌++◌, length}
use Rattle.std.proofs.Common.{◌+◌, map, refl, ap, append-nil, append_assoc, length-append, slice_get, inl, inr}
use Rattle.std.specs.List.{list_any}
use Rattle.std.specs.Cmp.Lexicographic.{lists_equiv}
use Rattle.std.specs.Map.{keys_of, values_of}
use Rattle.std.proofs.Math.ListN.{length-map}
use Rattle.std.proofs.Math.Seq.{take-append_seam}
use Rattle.std.proofs.lemmas.Bool.{cases_Bool, or_parts}
use Rattle.std.proofs.lemmas.List.{map-append}
use Rattle.tree_machine.specs.Laws.CellOrder.{nat_equivalence}
use Rattle.indexmap.specs.IndexMap.{insert_entry, set_value_at}
use Rattle.book.specs.Entries.{Mark, Open, Entry, Successor, opened, with_mark}
use Rattle.book.specs.Labels.{Kept, same_label, steps_of}
use Rattle.book.specs.Unknown.{knows, unknown}
use Rattle.book.specs.Slots.{IsGrown, entries_of, labels_of, row_of, with_rows, with_steps}
use Rattle.book.proofs.Lists.{map-map}

-- a key that is not there goes last
pub put_last : {K V : Type 0} (eq : K → K → Bool) (es : List (K × V)) (k : K) (v : V)
    → list_any (eq k) (keys_of es) ≡ false → insert_entry eq es k v ≡ es ++ (k, v) ∷ []
put_last eq [] k v none = refl
put_last eq (e ∷ es) k v none =
    let apart = or_parts (eq k e.0) (list_any (eq k) (keys_of es)) none in
    rw (apart.0, put_last eq es k v apart.1) refl

module _ {S : Type 0} where
  -- a row written with another mark
  pub write_mark_at : (es : List (List ℕ × Entry S)) (i : ℕ) (r w : Entry S) (mark : Mark)
      → slice_get (values_of es) i ≡ Some r → w ≡ record r { mark = mark }
      → entries_of (set_value_at es i w) ≡ with_mark (entries_of es) i mark
  write_mark_at [] i r w mark at is = refl
  write_mark_at (p ∷ es) zero r w mark at is = let same : r ≡ p.1 = cc in rw (is, same) refl
  write_mark_at (p ∷ es) (suc i) r w mark at is = ap (λ xs. p.1 ∷ xs) (write_mark_at es i r w mark at is)

  -- the keys stay
  pub write_keeps_labels : (es : List (List ℕ × Entry S)) (i : ℕ) (w : Entry S)
      → labels_of (set_value_at es i w) ≡ labels_of es
  write_keeps_labels [] i w = refl
  write_keeps_labels (p ∷ es) zero w = refl
  write_keeps_labels (p ∷ es) (suc i) w = ap (λ xs. p.0 ∷ xs) (write_keeps_labels es i w)

  -- where there is no row, none is marked
  pub no_mark_at : (es : List (List ℕ × Entry S)) (i : ℕ) (mark : Mark) → slice_get (values_of es) i ≡ None
      → entries_of es ≡ with_mark (entries_of es) i mark
  no_mark_at [] i mark none = refl
  no_mark_at (e ∷ es) zero mark none = cc
  no_mark_at (e ∷ es) (suc i) mark none = ap (λ xs. e.1 ∷ xs) (no_mark_at es i mark none)

  pub length-entries : (es : List (List ℕ × Entry S)) → length (entries_of es) ≡ length es
  length-entries es = length-map es (λ slot. slot.1)

-- ---- rows that are put in for steps
known_as : (known : List (List ℕ)) (k : List ℕ) → list_any (same_label k) known ≡ knows same_label known k
known_as [] k = refl
known_as (l ∷ known) k = rw ((lists_equiv nat_equivalence).symm k l, known_as known k) refl

unknown_push : {S : Type 0} (same : S → S → Bool) (known : List S) (xs : List (Successor S)) (x : Successor S)
    → unknown same known (xs ++ x ∷ []) ≡ unknown same known xs
    ++ unknown same (known ++ map (λ (y : Successor S). y.state) (unknown same known xs)) (x ∷ [])
unknown_push same known [] x = rw append-nil refl
unknown_push same known (y ∷ xs) x = elim (cases_Bool (knows same known y.state)) [
  | inl t ↦ rw t (unknown_push same known xs x)
  | inr f ↦ rw (f, unknown_push same (known ++ y.state ∷ []) xs x, append_assoc) refl
]

module _ {S : Type 0} (step : S → ℕ → Option S) (s : S) (i : ℕ) where
  -- a row that goes last where its label is not there is that of its step
  pub one_put : (es new : List (List ℕ × Entry S)) (x : Successor (List ℕ)) (row : Entry S) (r : S)
      → new ≡ es ++ cond (list_any (same_label x.state) (keys_of es)) [] ((x.state, row) ∷ [])
      → row ≡ record {
        state = r;
        finding = x.finding;
        origin = Some (record { parent = i; thread = x.thread });
        mark = Open;
      }
      → step s x.thread ≡ Some r → new ≡ with_rows step s i es (x ∷ [])
  one_put es new x row r put is leads =
      rw (put, is, known_as (labels_of es) x.state)
      (elim (cases_Bool (knows same_label (labels_of es) x.state)) [
        | inl t ↦ rw t refl
        | inr f ↦ rw (f, leads) refl
      ])

  -- and so on, step after step
  pub more_put : (old mid new : List (List ℕ × Entry S)) (xs : List (Successor (List ℕ))) (x : Successor (List ℕ))
      → mid ≡ with_rows step s i old xs → new ≡ with_rows step s i mid (x ∷ [])
      → new ≡ with_rows step s i old (xs ++ x ∷ [])
  more_put old mid new xs x so_far put =
      let us = unknown same_label (labels_of old) xs in
      let known : labels_of mid ≡ labels_of old ++ map (λ (y : Successor (List ℕ)). y.state) us =
      rw so_far (simp (map-append, map-map)) in
      let more = unknown_push same_label (labels_of old) xs x in
      rw (put, known, so_far, more, map-append (row_of step s i) us, append_assoc) refl

  pub grown : (old new : List (List ℕ × Entry S)) (xs : List (Successor (List ℕ))) → new ≡ with_rows step s i old xs
      → IsGrown old new
  grown old new xs put = rw put (take-append_seam old _)

  pub length_with : (old new : List (List ℕ × Entry S)) (xs : List (Successor (List ℕ)))
      → new ≡ with_rows step s i old xs → length new ≡ length old + length (unknown same_label (labels_of old) xs)
  length_with old new xs put = rw (put, length-append, length-map) refl

  -- what the table shows then
  pub shown_with : (old new : List (List ℕ × Entry S)) (xs : List (Successor (List ℕ)))
      → new ≡ with_rows step s i old xs → (kept : Kept S)
      → record { entries = entries_of old; labels = labels_of old } ≡ kept
      → record { entries = entries_of new; labels = labels_of new } ≡ with_steps step s i kept xs
  shown_with old new xs put kept view = rw (← view, put) (simp (map-append, map-map))

  pub entries_with : (old new : List (List ℕ × Entry S)) (xs : List (Successor (List ℕ)))
      → new ≡ with_rows step s i old xs → entries_of new
      ≡ entries_of old ++ map (opened i) (steps_of step s (unknown same_label (labels_of old) xs))
  entries_with old new xs put = ap (λ (k : Kept S). k.entries) (shown_with old new xs put _ refl)
