-- A book stays lawful.
use Rattle.std.proofs.Common.{◌≡◌, ◌≢◌, ℕ, ◌+◌, ◌<◌, ◌≤◌, inl, inr, Bool, true, false, Some, List, [], ◌++◌, length}
use Rattle.std.proofs.Common.{map, refl, sym, ◌∙◌, append-nil, arith, slice_get}
use Rattle.book.specs.Entries.{Mark, Finding, Taken, Expanded, Entry, Successor, At, IsNext, with_mark, opened, states}
use Rattle.std.proofs.lemmas.Option.{slice_get_within}
use Rattle.tree_machine.proofs.Lists.{get-append_cases, get-append_left, get-append_right, get-map, map-get}
use Rattle.replay.specs.Schedule.{AreOneBy, StepMachine, IsMachine, Merges}
use Rattle.book.specs.Unknown.{with_successors, unknown}
use Rattle.book.specs.Layers.{GrowsFrom, NoneTaken}
use Rattle.book.specs.Law.{StandsFor, IsStep, IsLawful, IsExpansion}
use Rattle.book.proofs.EntryLemmas.{IsMarked, SameButMark, at-with_mark, with_mark-at, length-with_mark}
use Rattle.book.proofs.Unknown.{list_any-true, list_any-false, at-states, states-at, unknown_is, unknown_apart}
use Rattle.book.proofs.Unknown.{known_or_kept}
use Rattle.book.proofs.EnabledThreads.{among_enabled}

module _ {S : Type 0} (m : StepMachine S) (same : S → S → Bool) (right : S → Finding → Type 0)
    (machine : IsMachine m) (merges : Merges m same) where
  -- a step of entry e to a state that no entry has
  record IsNew (es : List (Entry S)) (e : Entry S) (y : Successor S) : Type 0 where
    step : m.step e.state y.thread ≡ Some y.state
    finding : right y.state y.finding
    fits : m.Fits y.state
    unknown : (j : ℕ) (d : Entry S) → At es j d → same d.state y.state ≡ false

  -- entry i, e, is not expanded, and of the fewest steps of those; once it has mark k, us can be put behind the entries
  record IsPut (es : List (Entry S)) (i : ℕ) (e : Entry S) (k : Mark) (us : List (Successor S)) : Type 0 where
    entry : At es i e
    left : e.mark ≢ Expanded
    fewest : (j : ℕ) (d : Entry S) → At es j d → d.mark ≢ Expanded → m.steps e.state ≤ m.steps d.state
    new : (n : ℕ) (y : Successor S) → slice_get us n ≡ Some y → (k ≡ Expanded) × IsNew es e y
    apart : (n o : ℕ) (y z : Successor S) → slice_get us n ≡ Some y → slice_get us o ≡ Some z
        → same y.state z.state ≡ true → n ≡ o

  module _ {es : List (Entry S)} {i : ℕ} {e : Entry S} {k : Mark} {us : List (Successor S)}
      (law : IsLawful m (AreOneBy same) right es) (put : IsPut es i e k us) where
    abbrev all : List (Entry S)
    all = with_mark es i k ++ map (opened i) us

    -- an entry afterwards is an old one, but for its mark, or is opened for a step
    data Where (j : ℕ) (f : Entry S) : Type 0 where
      Old : (d : Entry S) → At es j d → SameButMark d f → IsMarked i k j d f → Where j f
      New : (n : ℕ) (y : Successor S) → j ≡ length es + n → slice_get us n ≡ Some y → f ≡ opened i y → Where j f

    where_is : (j : ℕ) (f : Entry S) → At all j f → Where j f
    where_is j f at = elim (get-append_cases (with_mark es i k) (map (opened i) us) j f at) [
      | inl l ↦ (let o = at-with_mark es i k j f l in Old o.0 o.1 o.2 o.3)
      | inr r ↦ (let o = get-map (opened i) us r.0 f r.2 in New r.0 o.0 (rw (← length-with_mark es i k) r.1) o.1 o.2)
    ]

    kept_at : (j : ℕ) (d : Entry S) → At es j d → (f : Entry S) × At all j f × SameButMark d f × IsMarked i k j d f
    kept_at j d at = let w = with_mark-at es i k j d at in
        (w.0, get-append_left (with_mark es i k) (map (opened i) us) j w.0 w.1, w.2, w.3)

    new_steps : (n : ℕ) (y : Successor S) → slice_get us n ≡ Some y → m.steps y.state ≡ m.steps e.state + 1
    new_steps n y at = machine.one_more e.state y.state y.thread (put.new n y at).1.step

    stands_still : (s : S) → StandsFor m (AreOneBy same) es s → StandsFor m (AreOneBy same) all s
    stands_still s h = let w = kept_at h.0 h.1 h.2 in (h.0, w.0, w.1, rw w.2.state h.3, rw w.2.state h.4)

    -- one that was expanded is so afterwards, and one that is not was not
    still_expanded : (j : ℕ) (d f : Entry S) → At es j d → IsMarked i k j d f → d.mark ≡ Expanded → f.mark ≡ Expanded
    still_expanded j d f at (inl l) x = absurd (put.left (cc))
    still_expanded j d f at (inr r) x = cc

    was_left : (j : ℕ) (d f : Entry S) → At es j d → IsMarked i k j d f → f.mark ≢ Expanded → d.mark ≢ Expanded
    was_left j d f at which h x = h (still_expanded j d f at which x)

    origin_of : {j : ℕ} {f : Entry S} → Where j f → 0 < j → IsStep m all j f
    origin_of (Old d at but which) pos =
        let old = law.origins _ d at pos in
        let p = kept_at old.origin.parent old.parent old.entered in
        record {
          origin = old.origin;
          parent = p.0;
          recorded = but.origin ∙ old.recorded;
          earlier = old.earlier;
          entered = p.1;
          expanded = still_expanded old.origin.parent old.parent p.0 old.entered p.3 old.expanded;
          step = rw (p.2.state, but.state) old.step;
        }
    origin_of (New n y is at opens) pos =
        let p = kept_at i e put.entry in
        record {
          origin = record { parent = i; thread = y.thread };
          parent = p.0;
          recorded = rw opens refl;
          earlier = omega (arith, slice_get_within es i e put.entry);
          entered = p.1;
          expanded = elim p.3 [ inl l ↦ l.1 ∙ (put.new n y at).0 | inr r ↦ absurd (r.0 refl) ];
          step = rw (p.2.state, opens) (put.new n y at).1.step;
        }

    found : {j : ℕ} {f : Entry S} → Where j f → right f.state f.finding × m.Fits f.state
    found (Old d at but which) = rw (but.state, but.finding) (law.findings _ d at, law.fit _ d at)
    found (New n y is at opens) = rw opens ((put.new n y at).1.finding, (put.new n y at).1.fits)

    apart : {j l : ℕ} {f g : Entry S} → Where j f → Where l g → same f.state g.state ≡ true → j ≡ l
    apart (Old d at but which) (Old b there but' which') h =
        law.distinct _ _ d b at there (rw (← but.state, ← but'.state) h)
    apart (Old d at but which) (New n y is there opens) h =
        cc (but.state, opens, h, (put.new n y there).1.unknown _ d at)
    apart {j} {l} {f} {g} (New n y is at opens) (Old b there but which) h =
        cc (but.state, opens, merges.turned f.state g.state h, (put.new n y at).1.unknown l b there)
    apart (New n y is at opens) (New o z is' there opens') h =
        let same_place = put.apart n o y z at there (rw (opens, opens') at h) in omega arith

    stood : (k ≡ Expanded → (t : ℕ) (s : S) → m.step e.state t ≡ Some s → StandsFor m (AreOneBy same) all s)
        → {j : ℕ} {f : Entry S} (t : ℕ) (s : S) → Where j f → f.mark ≡ Expanded → m.step f.state t ≡ Some s
        → StandsFor m (AreOneBy same) all s
    stood steps t s (Old d at but (inl l)) x leads =
        let q : d ≡ e = cc in steps (sym l.1 ∙ x) t s (rw (← q, ← but.state) leads)
    stood steps t s (Old d at but (inr r)) x leads =
        stands_still s (law.stands _ t d s at (rw (← r.1) x) (rw (← but.state) leads))
    stood steps t s (New n y is at opens) x leads = absurd (cc)

    in_order : {j l : ℕ} {f g : Entry S} → Where j f → Where l g → j ≤ l → m.steps f.state ≤ m.steps g.state
    in_order (Old d at but which) (Old b there but' which') le =
        rw (but.state, but'.state) (law.ordered _ _ d b at there le)
    in_order (Old d at but which) (New n y is there opens) le =
        rw (but.state, opens, new_steps n y there) (law.near i _ e d put.entry put.left at)
    in_order {j} {l} (New n y is at opens) (Old b there but which) le =
        absurd (omega (arith, slice_get_within es l b there))
    in_order (New n y is at opens) (New o z is' there opens') le =
        rw (opens, opens', new_steps n y at, new_steps o z there) (omega arith)

    fewest_taken : {j l : ℕ} {f g : Entry S} → Where j f → f.mark ≡ Taken → Where l g → g.mark ≢ Expanded
        → m.steps f.state ≤ m.steps g.state
    fewest_taken {j} {l} {f} {g} (Old d at but (inl here)) x (Old b there but' which') y =
        let q : e ≡ d = cc in rw (but.state, but'.state, ← q) (put.fewest l b there (was_left l b g there which' y))
    fewest_taken {j} {l} {f} {g} (Old d at but (inr r)) x (Old b there but' which') y =
        rw (but.state, but'.state) (law.least j l d b at (cc) there (was_left l b g there which' y))
    fewest_taken (Old d at but which) x (New n z is there opens) y =
        rw (but.state, opens, new_steps n z there) (law.near i _ e d put.entry put.left at)
    fewest_taken (New n z is at opens) x there y = absurd (cc)

    close : {j l : ℕ} {f g : Entry S} → Where j f → f.mark ≢ Expanded → Where l g
        → m.steps g.state ≤ m.steps f.state + 1
    close {j} {l} {f} (Old d at but which) x (Old b there but' which') =
        rw (but'.state, but.state) (law.near j l d b at (was_left j d f at which x) there)
    close {j} {l} {f} (Old d at but which) x (New n y is there opens) =
        let less = put.fewest j d at (was_left j d f at which x) in
        rw (but.state, opens, new_steps n y there) (omega arith)
    close (New n y is at opens) x (Old b there but which) =
        let near = law.near i _ e b put.entry put.left there in rw (but.state, opens, new_steps n y at) (omega arith)
    close (New n y is at opens) x (New o z is' there opens') =
        rw (opens, opens', new_steps n y at, new_steps o z there) (omega arith)

    keeps : (k ≡ Expanded → (t : ℕ) (s : S) → m.step e.state t ≡ Some s → StandsFor m (AreOneBy same) all s)
        → IsLawful m (AreOneBy same) right all
    keeps steps = record {
      start = (let w = kept_at 0 law.start.0 law.start.1 in
          (w.0, w.1, w.2.state ∙ law.start.2, w.2.origin ∙ law.start.3));
      origins = (λ j f at. origin_of (where_is j f at));
      distinct = (λ j l f g at_j at_l. apart (where_is j f at_j) (where_is l g at_l));
      findings = (λ j f at. (found (where_is j f at)).0);
      fit = (λ j f at. (found (where_is j f at)).1);
      stands = (λ j t f s at. stood steps t s (where_is j f at));
      ordered = (λ j l f g at_j at_l. in_order (where_is j f at_j) (where_is l g at_l));
      least = (λ j l f g at_j x at_l. fewest_taken (where_is j f at_j) x (where_is l g at_l));
      near = (λ j l f g at_j x at_l. close (where_is j f at_j) x (where_is l g at_l));
    }

    grows : GrowsFrom m.steps es all
    grows j f at = elim (where_is j f at) [
      | Old d there but which ↦ inl (d, there, but.state, but.finding, still_expanded j d f there which)
      | New n y is there opens ↦ inr (i, e, put.entry, put.left, rw opens (new_steps n y there))
    ]

    rests : k ≡ Expanded → ((j : ℕ) (d : Entry S) → At es j d → d.mark ≡ Taken → i ≡ j) → NoneTaken all
    rests done alone j f at x = elim (where_is j f at) [
      | Old d there but which ↦ elim which [ inl l ↦ cc | inr r ↦ r.0 (alone j d there (rw (← r.1) x)) ]
      | New n y is there opens ↦ cc
    ]

  -- ---- the next entry is taken
  pub taken_keeps : (es : List (Entry S)) → IsLawful m (AreOneBy same) right es → (i : ℕ) (e : Entry S)
      → IsNext m.steps es i e → IsLawful m (AreOneBy same) right (with_mark es i Taken)
  taken_keeps es law i e next =
      let put : IsPut es i e Taken [] =
      record {
        entry = next.entry;
        left = λ x. cc (next.is_open, x);
        fewest = next.fewest;
        new = λ n y at. absurd (cc);
        apart = λ n o y z at. absurd (cc);
      } in
      rw (append-nil (with_mark es i Taken)) at (keeps law put (λ done. absurd (cc)))

  -- ---- the steps of a taken entry are entered
  module _ (es : List (Entry S)) (law : IsLawful m (AreOneBy same) right es) (i : ℕ) (e : Entry S) (at_i : At es i e)
      (is_taken : e.mark ≡ Taken) (xs : List (Successor S)) (expansion : IsExpansion m right e.state xs) where
    abbrev fresh : List (Successor S)
    fresh = unknown same (states es) xs

    fresh_put : IsPut es i e Expanded fresh
    fresh_put = record {
      entry = at_i;
      left = λ x. cc;
      fewest = λ j d at. law.least i j e d at_i is_taken at;
      new = λ n y at. let u = unknown_is m same merges (states es) xs n y at in (
        refl,
        record {
          step = expansion.steps u.0.0 y u.0.1;
          finding = expansion.findings u.0.0 y u.0.1;
          fits = expansion.fit u.0.0 y u.0.1;
          unknown = λ j d there.
              list_any-false (λ (r : S). same r y.state) (states es) u.1 j d.state (states-at es j d there);
        },
      );
      apart = unknown_apart m same merges (states es) xs;
    }

    -- the steps of e are stood for
    stands_for_steps : (t : ℕ) (s : S) → m.step e.state t ≡ Some s
        → StandsFor m (AreOneBy same) (with_successors same es i xs) s
    stands_for_steps t s leads =
        let j = among_enabled m machine e.state s t leads in
        let x = get-map (λ (x : Successor S). x.thread) xs j.0 t (rw expansion.threads j.1) in
        let is : x.0.state ≡ s = cc (expansion.steps j.0 x.0 x.1, x.2, leads) in
        let up = machine.one_more e.state s t leads in
        elim (known_or_kept m same merges (states es) xs j.0 x.0 x.1) [
          | inl k ↦ (
              let r = list_any-true (λ (u : S). same u x.0.state) (states es) k in
              let d = at-states es r.0 r.1 r.2 in
              let near = law.near i r.0 e d.0 at_i fresh_put.left d.1 in
              stands_still law fresh_put s (r.0, d.0, d.1, cc (d.2, is, r.3), rw up near))
          | inr y ↦ (
            length es + y.0,
            opened i y.1,
            rw (← length-with_mark es i Expanded)
                (get-append_right (with_mark es i Expanded) (map (opened i) fresh) y.0 (opened i y.1)
                (map-get (opened i) fresh y.0 y.1 y.2)),
            cc (is, y.3),
            rw (new_steps law fresh_put y.0 y.1 y.2, up) (omega arith),
          )
        ]

    pub entered_keeps : IsLawful m (AreOneBy same) right (with_successors same es i xs)
    entered_keeps = keeps law fresh_put (λ done. stands_for_steps)

    pub entered_grows : GrowsFrom m.steps es (with_successors same es i xs)
    entered_grows = grows law fresh_put

    -- if no other entry was taken, none is
    pub entered_rests : ((j : ℕ) (d : Entry S) → At es j d → d.mark ≡ Taken → i ≡ j)
        → NoneTaken (with_successors same es i xs)
    entered_rests = rests law fresh_put refl
