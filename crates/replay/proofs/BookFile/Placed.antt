-- Labels of which equal ones are stored once.
use Rattle.std.proofs.Common.{◌≡◌, ◌↔◌, ℕ, suc, ◌<◌, ◌≤◌, inl, inr, get_or, Bool, true, false, cond, Some}
use Rattle.std.proofs.Common.{List, [], ◌∷◌, ◌++◌, length, append-nil, Contains, refl, sym, ap, ◌∙◌, arith, slice_get}
use Rattle.std.specs.List.{list_any}
use Rattle.std.specs.Cmp.{IsEquivalence}
use Rattle.std.proofs.lemmas.List.{length-append, get_or_append_left, map-append}
use Rattle.std.proofs.lemmas.List.Elements.{Contains-append_left, Contains-append_right, Contains-append_cases}
use Rattle.std.proofs.lemmas.Map.Views.{list_any-from_Contains}
use Rattle.std.proofs.lemmas.Option.{get_or_from_slice_get, slice_get-get_or, slice_get_within}
use Rattle.indexmap.proofs.CallerLemmas.{Contains-list_any}
use Rattle.lin.proofs.Lists.{Contains-cases, Contains-slice_get, not-Contains-nil, slice_get-Contains}
use Rattle.sched_program.specs.Exact.{IsExact}
use Rattle.tree_machine.proofs.Lists.{get-map}
use Rattle.replay.specs.BookFile.Places.{labels_at, ArePlaced}
use Rattle.replay.proofs.BookFile.Replayed.{last_item_or}

-- what stands at places stays where more comes behind
labels_stay : (distinct tail : List (List ℕ)) (places : List ℕ)
    → ((i place : ℕ) → slice_get places i ≡ Some place → place < length distinct)
    → labels_at (distinct ++ tail) places ≡ labels_at distinct places
labels_stay distinct tail [] within = refl
labels_stay distinct tail (place ∷ places) within =
    let first = get_or_append_left distinct tail [] place (within 0 place refl) in
    let rest = labels_stay distinct tail places (λ i p at. within (suc i) p at) in
    λ j. first j ∷ rest j

-- a label is put in behind those that are there, where `tail` has no other
put_behind : (distinct tail : List (List ℕ)) (places : List ℕ) (label : List ℕ) (place : ℕ) → ArePlaced distinct places
    → slice_get (distinct ++ tail) place ≡ Some label → ((l : List ℕ) → Contains tail l → l ≡ label) → length tail ≤ 1
    → ArePlaced (distinct ++ tail) (places ++ place ∷ [])
    × (labels_at (distinct ++ tail) (places ++ place ∷ []) ≡ labels_at distinct places ++ label ∷ [])
put_behind distinct tail places label place so there only one =
    let here = get_or_from_slice_get (distinct ++ tail) place label [] there in
    let seen : labels_at (distinct ++ tail) (places ++ place ∷ []) ≡ labels_at distinct places ++ label ∷ [] =
    map-append (λ p. get_or (distinct ++ tail) p []) places (place ∷ [])
    ∙ (λ j. labels_stay distinct tail places so.within j ++ here j ∷ []) in (
      record {
        within = last_item_or (λ _ (q : ℕ). q < length (distinct ++ tail)) places place
            (λ i q at. omega (arith, so.within i q at, length-append distinct tail))
            (slice_get_within (distinct ++ tail) place label there);
        used = (λ l has. rw seen (elim (Contains-append_cases distinct tail l has) [
          | inl h ↦ Contains-append_left (labels_at distinct places) (label ∷ []) l (so.used l h)
          | inr h ↦ Contains-append_right (labels_at distinct places) (label ∷ []) l
              (Contains-slice_get (label ∷ []) 0 l (ap Some (sym (only l h))))
        ]));
        bounded = omega (arith, length-append distinct tail, length-append places (place ∷ []), so.bounded);
      },
      seen,
    )

-- a label is put in, unless it is there
pub label_put : {distinct more : List (List ℕ)} {places : List ℕ} {label : List ℕ} (place : ℕ) (there : Bool)
    → more ≡ cond there distinct (distinct ++ label ∷ []) → ArePlaced distinct places
    → slice_get more place ≡ Some label
    → ArePlaced more (places ++ place ∷ [])
    × (labels_at more (places ++ place ∷ []) ≡ labels_at distinct places ++ label ∷ [])
label_put {distinct} {more} {places} {label} place true is so here =
    let same : distinct ++ [] ≡ more = append-nil distinct ∙ sym is in
    rw (← same) (put_behind distinct [] places label place so (rw same here)
    (λ l none. absurd (not-Contains-nil l none)) (omega arith))
label_put {distinct} {more} {places} {label} place false is so here =
    rw is (put_behind distinct (label ∷ []) places label place so (rw is at here)
    (λ l has. elim (Contains-cases label [] l has) [
      | inl one ↦ sym one
      | inr none ↦ absurd (not-Contains-nil l none)
    ])
    (omega arith))

module _ (eq : List ℕ → List ℕ → Bool) (laws : IsEquivalence eq) (exact : IsExact eq)
    (distinct : List (List ℕ)) (places : List ℕ) (so : ArePlaced distinct places) where
  -- a label is that of an entry exactly if the distinct ones have it
  pub label_found : (label : List ℕ) → (list_any (eq label) distinct ≡ true)
      ↔ Contains (labels_at distinct places) label
  label_found label = (
    λ h. so.used label (Contains-list_any eq exact distinct label h),
    λ h. let w = slice_get-Contains (labels_at distinct places) label h in
        let p = get-map (λ q. get_or distinct q []) places w.0 label w.1 in
        let there : slice_get distinct p.0 ≡ Some (get_or distinct p.0 []) =
        slice_get-get_or distinct p.0 [] (so.within w.0 p.0 p.1) in
        list_any-from_Contains laws label distinct
        (Contains-slice_get distinct p.0 label (there ∙ ap Some (sym p.2))),
  )
