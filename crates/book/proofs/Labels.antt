-- Labels in place of states.
use Rattle.std.proofs.Common.{◌≡◌, ℕ, zero, suc, ◌||◌, Option, List, [], ◌∷◌, ◌++◌, length, map, refl, sym, ap, ◌∙◌}
use Rattle.std.proofs.Common.{inl, inr}
use Rattle.std.proofs.Math.ListN.{length-map}
use Rattle.std.proofs.lemmas.Bool.{cases_Bool}
use Rattle.std.proofs.lemmas.List.{map-append}
use Rattle.std.proofs.lemmas.List.Folds.{map_fixed}
use Rattle.std.proofs.lemmas.Option.{get_or_from_slice_get}
use Rattle.tree_machine.proofs.Lists.{get_at, get-map}
use Rattle.book.specs.Entries.{Mark, Entry, Successor, opened, states, with_mark, with_marks}
use Rattle.book.specs.Unknown.{knows, unknown}
use Rattle.book.specs.Labels.{AreKnownBy, Kept, labelled, same_as, same_label, steps_of}
use Rattle.book.specs.Slots.{with_steps}
use Rattle.book.proofs.Lists.{map-map}
use Rattle.book.proofs.Unknown.{unknown_among}

module _ {S : Type 0} (label_of : S → List ℕ) where
  knows_labelled : (known : List S) (s : S)
      → knows same_label (map label_of known) (label_of s) ≡ knows (same_as label_of) known s
  knows_labelled [] s = refl
  knows_labelled (r ∷ known) s = ap (λ b. same_as label_of r s || b) (knows_labelled known s)

  -- the new ones of labelled steps are those of the steps, by their labels
  unknown_labelled : (known : List S) (ys : List (Successor S))
      → unknown same_label (map label_of known) (map (labelled label_of) ys)
      ≡ map (labelled label_of) (unknown (same_as label_of) known ys)
  unknown_labelled known [] = refl
  unknown_labelled known (y ∷ ys) = elim (cases_Bool (knows (same_as label_of) known y.state)) [
    | inl t ↦ rw (knows_labelled known y.state, t) (unknown_labelled known ys)
    | inr f ↦ rw (
      knows_labelled known y.state,
      f,
      ← map-append label_of known (y.state ∷ []),
      unknown_labelled (known ++ y.state ∷ []) ys,
    )
        refl
  ]

  -- the new ones of the steps of a state, which are by their labels
  module _ (step : S → ℕ → Option S) (s : S) (kept : Kept S) (known : AreKnownBy label_of kept)
      (xs : List (Successor (List ℕ))) (are : xs ≡ map (labelled label_of) (steps_of step s xs)) where
    abbrev news : List (Successor S)
    news = unknown (same_as label_of) (states kept.entries) (steps_of step s xs)

    pub new_labels : unknown same_label kept.labels xs ≡ map (labelled label_of) news
    new_labels =
        ap (unknown same_label kept.labels) are
        ∙ rw (known ∙ sym (map-map label_of (λ (e : Entry S). e.state) kept.entries))
        (unknown_labelled (states kept.entries) (steps_of step s xs))

    pub new_count : length (unknown same_label kept.labels xs) ≡ length news
    new_count = rw new_labels (length-map news (labelled label_of))

    pub new_steps : steps_of step s (unknown same_label kept.labels xs) ≡ news
    new_steps =
        rw (new_labels, map-map) (map_fixed _ news (λ k d less.
        let z = get_at news k less in
        let of = unknown_among (same_as label_of) (states kept.entries) (steps_of step s xs) k z.0 z.1 in
        rw (get_or_from_slice_get news k z.0 d z.1, (get-map _ xs of.0.0 z.0 of.0.1).2) refl))

    -- a table to which they are added
    pub added : (i : ℕ) (after : Kept S) → after ≡ with_steps step s i kept xs
        → (after.entries ≡ kept.entries ++ map (opened i) news) × AreKnownBy label_of after
    added i after is = rw (is, new_steps, new_labels, known) (refl, simp (map-append, map-map))

-- marks do not change by which label a state is known
module _ {S : Type 0} (label_of : S → List ℕ) where
  marked_states : (es : List (Entry S)) (i : ℕ) (k : Mark)
      → map (λ (e : Entry S). label_of e.state) (with_mark es i k) ≡ map (λ (e : Entry S). label_of e.state) es
  marked_states [] i k = refl
  marked_states (e ∷ es) zero k = refl
  marked_states (e ∷ es) (suc i) k = ap (λ fs. label_of e.state ∷ fs) (marked_states es i k)

  pub known_mark : (kept : Kept S) (i : ℕ) (k : Mark) → AreKnownBy label_of kept
      → AreKnownBy label_of (record kept { entries = with_mark kept.entries i k })
  known_mark kept i k known = known ∙ sym (marked_states kept.entries i k)

  pub known_marks : (kept : Kept S) (is : List ℕ) (k : Mark) → AreKnownBy label_of kept
      → AreKnownBy label_of (record kept { entries = with_marks kept.entries is k })
  known_marks kept [] k known = known
  known_marks kept (i ∷ is) k known =
      known_marks (record kept { entries = with_mark kept.entries i k }) is k (known_mark kept i k known)
