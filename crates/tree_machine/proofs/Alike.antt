-- Alike states: the same threads of theirs have steps, their steps are alike, and so are their findings.
use Rattle.std.proofs.Common.{◌≡◌, ℕ, List, [], ◌∷◌, ◌++◌, length, Bool, Option, Some, None, is_some, refl, sym, ap}
use Rattle.std.proofs.Common.{◌∙◌, slice_get, ◌↔◌, zero, suc, option_and_then, slice_set, IsTrue, IsSomeAnd}
use Rattle.std.specs.List.{AllZip}
use Rattle.std.specs.Option.{option_map}
use Rattle.sched_program.specs.Program.{Program}
use Rattle.sched_program.specs.declared.operation.Op.{Op}
use Rattle.tree_machine.specs.Alike.{places_of, replies_of, notes_of, AreStatesAlike}
use Rattle.tree_machine.specs.History.{history_of}
use Rattle.tree_machine.specs.Pairing.{Pairing, AreHeldPaired, AreStepsPaired, ArePairsLawful}
use Rattle.tree_machine.specs.Rules.{Rules, AreLawful}
use Rattle.tree_machine.specs.Step.{finished_counts, place_or, notes_at_step, at_step, after_access, stepped, step}
use Rattle.tree_machine.specs.Step.{next_op, ready, IsEnabled}
use Rattle.tree_machine.specs.declared.machine.Outcome.{Outcome}
use Rattle.tree_machine.specs.declared.machine.Outcome.TheVariants.{Goes, Replies, Astray}
use Rattle.tree_machine.specs.declared.state.Thread.{Thread}
use Rattle.tree_machine.specs.declared.state.State.{State}
use Rattle.tree_machine.specs.Laws.Cells.{AllZip-weaker, map_paired as same_maps}
use Rattle.tree_machine.specs.Laws.Decoded.{held_are_some}
use Rattle.tree_machine.specs.Laws.MetLists.{map_zip}
use Rattle.tree_machine.proofs.FreshPairs.{choices_paired}

-- ---- options and lists whose values are paired

module _ {A : Type 0} where
  held_weaker : (P Q : A → A → Type 0) → ((x y : A) → P x y → Q x y) → (held twin : Option A)
      → AreHeldPaired P held twin → AreHeldPaired Q held twin
  held_weaker P Q h None None k = tt
  held_weaker P Q h (Some x) (Some y) k = h x y k
  held_weaker P Q h _ _ k = absurd k

  zip_set : (P : A → A → Type 0) (xs ys : List A) (t : ℕ) (a b : A) → AllZip P xs ys → P a b
      → AllZip P (slice_set xs t a) (slice_set ys t b)
  zip_set P [] [] t a b z p = tt
  zip_set P (x ∷ xs) (y ∷ ys) zero a b z p = (p, z.1)
  zip_set P (x ∷ xs) (y ∷ ys) (suc t) a b z p = (z.0, zip_set P xs ys t a b z.1 p)
  zip_set P _ _ t a b z p = absurd z

  -- two paired lists have paired elements, or none in both
  zip_get : (P : A → A → Type 0) (xs ys : List A) (t : ℕ) → AllZip P xs ys
      → AreHeldPaired P (slice_get xs t) (slice_get ys t)
  zip_get P [] [] t z = tt
  zip_get P (x ∷ xs) (y ∷ ys) zero z = z.0
  zip_get P (x ∷ xs) (y ∷ ys) (suc t) z = zip_get P xs ys t z.1
  zip_get P _ _ t z = absurd z

  -- what is in two options that are paired
  held_some : (P : A → A → Type 0) (held twin : Option A) (x : A) → AreHeldPaired P held twin → held ≡ Some x
      → (y : A) × (twin ≡ Some y) × P x y
  held_some P None None x k h = cc
  held_some P (Some a) (Some y) x k h = let same : a ≡ x = (cc) in (y, refl, rw same at k)
  held_some P _ _ x k h = absurd k

module _ {A B : Type 0} (Q : B → B → Type 0) where
  then_paired : (P : A → A → Type 0) (f g : A → Option B) → ((x y : A) → P x y → AreHeldPaired Q (f x) (g y))
      → (held twin : Option A)
      → AreHeldPaired P held twin → AreHeldPaired Q (option_and_then f held) (option_and_then g twin)
  then_paired P f g h None None k = tt
  then_paired P f g h (Some x) (Some y) k = h x y k
  then_paired P f g h _ _ k = absurd k

  same_paired : (f g : A → B) → ((x : A) → Q (f x) (g x)) → (held : Option A)
      → AreHeldPaired Q (option_map f held) (option_map g held)
  same_paired f g h None = tt
  same_paired f g h (Some x) = h x

  map_paired : (P : A → A → Type 0) (f g : A → B) → ((x y : A) → P x y → Q (f x) (g y)) → (held twin : Option A)
      → AreHeldPaired P held twin → AreHeldPaired Q (option_map f held) (option_map g twin)
  map_paired P f g h None None k = tt
  map_paired P f g h (Some x) (Some y) k = h x y k
  map_paired P f g h _ _ k = absurd k

-- ---- threads

module _ {Place : Type 0} where
  -- two threads hold paired places, or both none, and did the same
  record AreThreadsPaired (P : Place → Place → Type 0) (thread twin : Thread Place) : Type 0 where
    place : AreHeldPaired P thread.place twin.place
    replies : thread.replies ≡ twin.replies
    notes : thread.notes ≡ twin.notes

  -- two threads that are paired, each with the same operation
  abbrev AreReadyPaired : (Place → Place → Type 0) → Thread Place × Op → Thread Place × Op → Type 0
  AreReadyPaired P x y = AreThreadsPaired P x.0 y.0 × (x.1 ≡ y.1)

  threads_zip : (P : Place → Place → Type 0) (xs ys : List (Thread Place))
      → AllZip (AreHeldPaired P) (places_of xs) (places_of ys)
      → replies_of xs ≡ replies_of ys → notes_of xs ≡ notes_of ys → AllZip (AreThreadsPaired P) xs ys
  threads_zip P [] [] z r n = tt
  threads_zip P (x ∷ xs) (y ∷ ys) z r n =
      (record { place = z.0; replies = (cc); notes = (cc) }, threads_zip P xs ys z.1 (cc) (cc))
  threads_zip P _ _ z r n = absurd z

  zip_places : (P : Place → Place → Type 0) (xs ys : List (Thread Place)) → AllZip (AreThreadsPaired P) xs ys
      → AllZip (AreHeldPaired P) (places_of xs) (places_of ys)
  zip_places P xs ys z =
      map_zip (AreHeldPaired P) (λ x. x.place) (λ x. x.place) xs ys (AllZip-weaker _ _ (λ x y k. k.place) xs ys z)

  zip_counts : (P : Place → Place → Type 0) (xs ys : List (Thread Place)) → AllZip (AreThreadsPaired P) xs ys
      → finished_counts xs ≡ finished_counts ys
  zip_counts P xs ys z = same_maps (AreThreadsPaired P) _ _ (λ x y k. ap length k.replies) xs ys z

  place_or_paired : (P : Place → Place → Type 0) (held twin : Option Place) (first : Place) → P first first
      → AreHeldPaired P held twin → P (place_or held first) (place_or twin first)
  place_or_paired P None None first f k = f
  place_or_paired P (Some x) (Some y) first f k = k
  place_or_paired P _ _ first f k = absurd k

  notes_paired : (P : Place → Place → Type 0) (held twin : Option Place) (notes : List (List ℕ)) (counts : List ℕ)
      → AreHeldPaired P held twin → notes_at_step held notes counts ≡ notes_at_step twin notes counts
  notes_paired P None None notes counts k = refl
  notes_paired P (Some x) (Some y) notes counts k = refl
  notes_paired P _ _ notes counts k = absurd k

module _ {Machine Memory Place Form : Type 0} (rules : Rules Memory Place) where
  -- states of paired memories and threads
  from_threads : (p : Pairing) (memory twin : Memory) (xs ys : List (Thread Place)) (n m : ℕ) (astray : Option ℕ)
      → rules.pairs.memories p memory twin
      → AllZip (AreThreadsPaired (rules.pairs.places p)) xs ys
      → AreStatesAlike {Machine = Machine} {Form = Form} rules
      (record { memory = memory; threads = xs; steps = n; astray = astray })
      (record { memory = twin; threads = ys; steps = m; astray = astray })
  from_threads p memory twin xs ys n m astray h z = record {
    paired = (p, h, zip_places _ xs ys z);
    replies = same_maps (AreThreadsPaired _) _ _ (λ x y k. k.replies) xs ys z;
    notes = same_maps (AreThreadsPaired _) _ _ (λ x y k. k.notes) xs ys z;
    astray = refl;
  }

  module _ (state twin : State Machine Memory Place Form) where
    after_alike : (p : Pairing) (t : ℕ) (thread other : Thread Place) (memory changed : Memory)
        (outcome result : Outcome Place)
        → rules.pairs.memories p state.memory twin.memory
        → AllZip (AreThreadsPaired (rules.pairs.places p)) state.threads twin.threads
        → AreThreadsPaired (rules.pairs.places p) thread other
        → (both : AreStepsPaired rules.pairs p (memory, outcome) (changed, result))
        → AllZip (AreThreadsPaired (rules.pairs.places both.then)) state.threads twin.threads
        → AreStatesAlike rules (after_access state t thread (memory, outcome))
        (after_access twin t other (changed, result))
    after_alike p t thread other memory changed (Goes goal) (Goes next) h z k both more =
        from_threads both.then memory changed _ _ _ _ None both.memories_paired
        (zip_set _ state.threads twin.threads t _ _ more
        (record { place = both.outcomes_paired; replies = k.replies; notes = k.notes }))
    after_alike p t thread other memory changed (Replies reply) (Replies answer) h z k both more =
        let same : reply ≡ answer = both.outcomes_paired in
        let replies = k.replies in
        from_threads both.then memory changed _ _ _ _ None both.memories_paired
        (zip_set _ state.threads twin.threads t _ _ more
        (record { place = tt; replies = λ i. replies i ++ same i ∷ []; notes = k.notes }))
    after_alike p t thread other memory changed Astray Astray h z k both more =
        from_threads p state.memory twin.memory _ _ _ _ (Some t) h
        (zip_set _ state.threads twin.threads t thread other z k)
    after_alike p t thread other memory changed _ _ h z k both more = absurd both.outcomes_paired

    -- the steps of two paired threads
    stepped_alike : ArePairsLawful rules.pairs rules.first rules.act rules.IsOrdered → (p : Pairing)
        → rules.pairs.memories p state.memory twin.memory
        → AllZip (AreThreadsPaired (rules.pairs.places p)) state.threads twin.threads
        → (t : ℕ) (op : Op) (thread other : Thread Place)
        → AreThreadsPaired (rules.pairs.places p) thread other
        → AreStatesAlike rules (stepped rules state t op thread) (stepped rules twin t op other)
    stepped_alike lawful p h z t op thread other k =
        let place =
        place_or_paired (rules.pairs.places p) thread.place other.place (rules.first op)
        (lawful.first_paired op p state.memory twin.memory h) k.place in
        let both = lawful.act_paired op p _ _ state.memory twin.memory h place in
        after_alike p t (at_step rules state op thread) (at_step rules twin op other) _ _ _ _ h z
        (record {
          place = place;
          replies = k.replies;
          notes = rw (k.notes, zip_counts _ state.threads twin.threads z)
              (notes_paired (rules.pairs.places p) thread.place other.place other.notes _ k.place);
        }) both
        (AllZip-weaker _ _ (λ x y k. record {
          place = held_weaker _ _ (λ v w. lawful.places_extend p both.then v w both.extends) x.place y.place k.place;
          replies = k.replies;
          notes = k.notes;
        }) state.threads twin.threads z)

    threads_paired : (alike : AreStatesAlike rules state twin)
        → AllZip (AreThreadsPaired (rules.pairs.places alike.paired.0)) state.threads twin.threads
    threads_paired alike = threads_zip _ state.threads twin.threads alike.paired.2 alike.replies alike.notes

    -- in alike states the threads that have a step are the same, each with the same operation
    ready_alike : (alike : AreStatesAlike rules state twin) → (program : Program) (t : ℕ)
        → AreHeldPaired (AreReadyPaired (rules.pairs.places alike.paired.0)) (ready program state t)
        (ready program twin t)
    ready_alike alike program t =
        let P = rules.pairs.places alike.paired.0 in
        choices_paired (AreHeldPaired (AreReadyPaired P)) (is_some state.astray) (is_some twin.astray) None _ None _
        (ap is_some alike.astray) tt
        (then_paired (AreReadyPaired P) (AreThreadsPaired P) _ _
        (λ thread other k.
        let same : next_op program (finished_counts state.threads) t thread
        ≡ next_op program (finished_counts twin.threads) t other =
        rw (
          held_are_some P thread.place other.place k.place,
          k.replies,
          zip_counts P state.threads twin.threads (threads_paired alike),
        )
        refl in
        rw same (same_paired (AreReadyPaired P) (λ op. (thread, op)) (λ op. (other, op)) (λ op. (k, refl)) _))
        (slice_get state.threads t) (slice_get twin.threads t)
        (zip_get _ state.threads twin.threads t (threads_paired alike)))

    -- in alike states the threads that have steps are the same, and the states behind these are alike
    alike_steps : AreLawful rules → AreStatesAlike rules state twin → (program : Program) (t : ℕ)
        → AreHeldPaired (AreStatesAlike rules) (step rules program state t) (step rules program twin t)
    alike_steps lawful alike program t =
        map_paired (AreStatesAlike rules) (AreReadyPaired (rules.pairs.places alike.paired.0)) _ _
        (λ x y k. rw (← k.1)
        (stepped_alike lawful.pairs_lawful alike.paired.0 alike.paired.1 (threads_paired alike) t x.1 x.0 y.0 k.0))
        (ready program state t) (ready program twin t) (ready_alike alike program t)

    -- a step of the one is alike to a step of the other
    pub alike_step : AreLawful rules → AreStatesAlike rules state twin
        → (program : Program) (t : ℕ) (next : State Machine Memory Place Form) → step rules program state t ≡ Some next
        → (other : State Machine Memory Place Form) × (step rules program twin t ≡ Some other)
        × AreStatesAlike rules next other
    alike_step lawful alike program t next h =
        held_some _ (step rules program state t) (step rules program twin t) next (alike_steps lawful alike program t) h

    pub alike_next : AreLawful rules → AreStatesAlike rules state twin
        → (program : Program) (t : ℕ) (next : State Machine Memory Place Form) → step rules program state t ≡ Some next
        → IsSomeAnd (step rules program twin t) (AreStatesAlike rules next)
    alike_next lawful alike program t next h =
        let other = alike_step lawful alike program t next h in rw other.1 other.2

    -- in alike states the enabled threads are the same
    pub enabled_alike : AreStatesAlike rules state twin → (program : Program) (t : ℕ) (stated : Bool)
        → (IsTrue stated ↔ IsEnabled program state t) → IsTrue stated ↔ IsEnabled program twin t
    enabled_alike alike program t stated is =
        let same = held_are_some _ (ready program state t) (ready program twin t) (ready_alike alike program t) in
        ((λ h. sym same ∙ is.0 h), (λ enabled. is.1 (same ∙ enabled)))

    pub alike_history : AreStatesAlike rules state twin → history_of state ≡ history_of twin
    alike_history alike = rw (alike.notes, alike.replies) refl

    pub alike_ordered : AreLawful rules → AreStatesAlike rules state twin → rules.IsOrdered state.memory
        → rules.IsOrdered twin.memory
    alike_ordered lawful alike =
        (lawful.pairs_lawful.ordered_paired alike.paired.0 state.memory twin.memory alike.paired.1).0
