-- The way from entry 0 to an entry.
use Rattle.std.proofs.Common.{◌≡◌, ℕ, ◌+◌, ◌<◌, inl, inr, Bool, Option, Some, None, List, [], ◌∷◌, ◌++◌, length}
use Rattle.std.proofs.Common.{reverse, refl, sym, ap, ◌∙◌, arith, subst}
use Rattle.std.proofs.lemmas.Bool.{cases_lt}
use Rattle.std.proofs.lemmas.List.{reverse-append}
use Rattle.std.proofs.lemmas.Option.{option_and_then_some, same_Some, slice_get_within}
use Rattle.book.specs.Entries.{Finding, Origin, Entry, At}
use Rattle.tree_machine.proofs.Lists.{get_at}
use Rattle.replay.specs.Schedule.{AreOneBy, StepMachine, IsMachine, run, after}
use Rattle.book.specs.Law.{IsLawful}
use Rattle.book.specs.Ways.{IsWay}

module _ {S : Type 0} (m : StepMachine S) (machine : IsMachine m) where
  -- each state on the way is one of the machine, and has one more step for each of the way's
  pub along : (c : List ℕ) (r s : S) → m.Fits r → run m r c ≡ Some s → m.Fits s × (m.steps s ≡ m.steps r + length c)
  along [] r s fits h = let e : r ≡ s = cc in rw (← e) (fits, omega arith)
  along (t ∷ c) r s fits h =
      option_and_then_some (λ (u : S). run m u c) (m.step r t) s h (λ u first rest.
      let more = along c u s (machine.step_fits r u t fits first) rest in
      (more.0, omega (arith, machine.one_more r u t first, more.1)))

  pub steps_after : (c : List ℕ) (s : S) → after m c ≡ Some s → m.steps s ≡ length c
  steps_after c s h = omega (arith, (along c m.start s machine.start_fits h).1, machine.from_zero)

  pub fits_after : (c : List ℕ) (s : S) → after m c ≡ Some s → m.Fits s
  fits_after c s h = (along c m.start s machine.start_fits h).0

module _ {S : Type 0} (m : StepMachine S) (same : S → S → Bool) (right : S → Finding → Type 0) (es : List (Entry S))
    (law : IsLawful m (AreOneBy same) right es) where
  -- an entry that has an origin is the step that its origin names
  step_of : (k : ℕ) (e : Entry S) (o : Origin) → At es k e → e.origin ≡ Some o
      → (parent : Entry S) × At es o.parent parent × (o.parent < k) × (m.step parent.state o.thread ≡ Some e.state)
  step_of k e o at recorded =
      elim (cases_lt 0 k) [
        | inl later ↦ (
            let made = law.origins k e at later in
            let is : made.origin ≡ o = same_Some made.origin o (sym made.recorded ∙ recorded) in (
              made.parent,
              rw is at made.entered,
              rw is at made.earlier,
              rw is at made.step,
            ))
        | inr none ↦ let first : k ≡ 0 = omega arith in cc (first, at, law.start.1, law.start.3, recorded)
      ]

  -- an entry that has none is the start
  no_origin : (k : ℕ) (e : Entry S) → At es k e → e.origin ≡ None → k ≡ 0
  no_origin k e at none =
      elim (cases_lt 0 k) [
        | inl later ↦ let made = law.origins k e at later in cc (none, made.recorded)
        | inr least ↦ omega arith
      ]

  -- the way back goes on from the entry that the origin names, and ends where there is none
  module _ (at : ℕ) {o : Option Origin} (here : (e : Entry S) × At es at e × (e.origin ≡ o)) where
    pub earlier_origin : (origin : Origin) → o ≡ Some origin → origin.parent < at
    earlier_origin origin is = (step_of at here.0 origin here.1 (here.2 ∙ is)).2

    pub way_back : (id : ℕ) (noted : List ℕ) (origin : Origin) → o ≡ Some origin → IsWay es at (reverse noted) id
        → (origin.parent < length es) × IsWay es origin.parent (reverse (noted ++ origin.thread ∷ [])) id
    way_back id noted origin is way =
        let made = step_of at here.0 origin here.1 (here.2 ∙ is) in (
          slice_get_within es origin.parent made.0 made.1,
          rw (reverse-append noted (origin.thread ∷ [])) (at, here.0, here.1, here.2 ∙ is, way),
        )

    pub way_ends : (id : ℕ) (c : List ℕ) → o ≡ None → IsWay es at c id → IsWay es 0 c id
    way_ends id c none way = subst (λ k. IsWay es k c id) (no_origin at here.0 here.1 (here.2 ∙ none)) way

  -- the recorded way is a run of the machine
  way_leads : (c : List ℕ) (i j : ℕ) (e f : Entry S) → At es i e → At es j f → IsWay es i c j
      → run m e.state c ≡ Some f.state
  way_leads [] i j e f at there way = rw (same_Some e f (sym (rw way at at) ∙ there)) refl
  way_leads (t ∷ c) i j e f at there way =
      let made = step_of way.0 way.1 (record { parent = i; thread = t }) way.2 way.3 in
      let parent : made.0 ≡ e = cc (made.1, at) in
      rw (rw parent at made.3) (way_leads c way.0 j way.1 f way.2 there way.4)

  -- from the start it reaches the entry's state, in as many steps as this has behind it
  pub way_run : IsMachine m → (c : List ℕ) (j : ℕ) → j < length es → IsWay es 0 c j
      → (f : Entry S) × At es j f × (after m c ≡ Some f.state) × (length c ≡ m.steps f.state)
  way_run machine c j within way =
      let f = get_at es j within in
      let leads : after m c ≡ Some f.0.state =
      rw law.start.2 at (way_leads c 0 j law.start.0 f.0 law.start.1 f.1 way) in
      (f.0, f.1, leads, sym (steps_after m machine c f.0.state leads))

  -- two ways of one length to an entry are one
  same_way : (c d : List ℕ) (i k j : ℕ) → length c ≡ length d → IsWay es i c j → IsWay es k d j → (i ≡ k) × (c ≡ d)
  same_way [] [] i k j long way also = (way ∙ sym also, refl)
  same_way [] (u ∷ d) i k j long way also = absurd (omega arith)
  same_way (t ∷ c) [] i k j long way also = absurd (omega arith)
  same_way (t ∷ c) (u ∷ d) i k j long way also =
      let rest = same_way c d way.0 also.0 j (omega arith) way.4 also.4 in
      let o : Origin = record { parent = i; thread = t } in
      let p : Origin = record { parent = k; thread = u } in
      let origin : o ≡ p = cc (rest.0, way.2, way.3, also.2, also.3) in
      (ap (λ (q : Origin). q.parent) origin, rw (rest.1, ap (λ (q : Origin). q.thread) origin) refl)

  -- so there is only one from entry 0
  pub one_way : IsMachine m → (c d : List ℕ) (j : ℕ) → j < length es → IsWay es 0 c j → IsWay es 0 d j → d ≡ c
  one_way machine c d j within way also =
      let first = way_run machine c j within way in
      let second = way_run machine d j within also in
      let same : first.0 ≡ second.0 = cc (first.1, second.1) in
      (same_way d c 0 0 j (cc (first.3, second.3, same)) also way).1
