-- A step after which its thread has no reply and no note more leaves what the threads did as it was, and a step that is
-- taken back leaves the state that it was made from.
use Rattle.std.proofs.Common.{◌≡◌, ℕ, Bool, List, [], ◌∷◌, ◌++◌, length, map, Option, Some, None, refl, sym, ap, ◌∙◌}
use Rattle.std.proofs.Common.{arith, slice_get, slice_set, length-append, ◌+◌, ◌-◌, set}
use Rattle.std.proofs.lemmas.List.{append-nil, set-get_or, set-set}
use Rattle.std.proofs.Math.Seq.{map-set_same}
use Rattle.std.proofs.lemmas.Option.{get_or_from_slice_get, same_Some, slice_get_within}
use Rattle.sched_program.specs.Program.{Program}
use Rattle.tree_machine.specs.Alike.{replies_of, notes_of}
use Rattle.tree_machine.specs.Offsets.{op_log_of}
use Rattle.tree_machine.specs.Rules.{Rules}
use Rattle.tree_machine.specs.Step.{at_step, after_access, notes_at_step, step, place_or}
use Rattle.tree_machine.specs.declared.machine.Outcome.{Outcome}
use Rattle.tree_machine.specs.declared.machine.Outcome.TheVariants.{Goes, Replies, Astray}
use Rattle.tree_machine.specs.declared.state.Thread.{Thread}
use Rattle.tree_machine.specs.declared.state.State.{State}
use Rattle.tree_machine.specs.Laws.Decoded.{map_some}
use Rattle.tree_machine.proofs.Lists.{get-set_same}
use Rattle.tree_machine.proofs.States.{not_astray, step_parts}

module _ {X : Type 0} where
  map-put : {Y : Type 0} (f : X → Y) (xs : List X) (i : ℕ) (v x : X) → slice_get xs i ≡ Some x → f v ≡ f x
      → map f (slice_set xs i v) ≡ map f xs
  map-put f xs i v x h e = map-set_same f xs i v x (e ∙ ap f (sym (get_or_from_slice_get xs i x x h)))

  -- a list that is no longer with more behind it is as it was
  no_more : (xs more ys : List X) → ys ≡ xs ++ more → length ys ≡ length xs → ys ≡ xs
  no_more xs [] ys e h = e ∙ append-nil xs
  no_more xs (x ∷ more) ys e h = absurd (omega (arith, length-append xs (x ∷ more), ap length e))

noted : {Place : Type 0} (held : Option Place) (notes : List (List ℕ)) (counts : List ℕ)
    → (more : List (List ℕ)) × (notes_at_step held notes counts ≡ notes ++ more)
noted None notes counts = (counts ∷ [], refl)
noted (Some place) notes counts = ([], sym (append-nil notes))

module _ {Machine Memory Place Form : Type 0} where
  -- an access replaces one thread by one that has maybe a reply more, and counts one step
  access_parts : (state : State Machine Memory Place Form) (t : ℕ) (at : Thread Place)
      (acted : Memory × Outcome Place) → (after : Thread Place) × (more : List Bool)
      × ((after_access state t at acted).threads ≡ slice_set state.threads t after)
      × (after.replies ≡ at.replies ++ more) × (after.notes ≡ at.notes)
      × ((after_access state t at acted).steps ≡ state.steps + 1)
  access_parts state t at (memory, Goes place) =
      (record at { place = Some place }, [], refl, sym (append-nil at.replies), refl, refl)
  access_parts state t at (memory, Replies reply) = (_, reply ∷ [], refl, refl, refl, refl)
  access_parts state t at (memory, Astray) = (at, [], refl, sym (append-nil at.replies), refl, refl)

module _ {Machine Memory Place Form : Type 0} (rules : Rules Memory Place) (program : Program)
    (state next : State Machine Memory Place Form) (t : ℕ) (made : step rules program state t ≡ Some next) where
  -- a state that has a step is not astray
  pub source_not_astray : state.astray ≡ None
  source_not_astray = grind (arith, map_some, not_astray)

  module _ {there here : Thread Place} (at_t : slice_get state.threads t ≡ Some there)
      (found : slice_get next.threads t ≡ Some here) (as_many : length here.replies ≡ length there.replies)
      (as_many_notes : length here.notes ≡ length there.notes) where
    -- what the threads did is as it was
    op_log_stays : (replies_of next.threads ≡ replies_of state.threads)
        × (notes_of next.threads ≡ notes_of state.threads)
    op_log_stays =
        grind (arith, step_parts, same_Some, noted, access_parts, slice_get_within, get-set_same, map-put, no_more)

    -- and so are its bytes
    pub same_op_log : next.astray ≡ None → op_log_of next ≡ op_log_of state
    same_op_log calm = grind (arith, source_not_astray, op_log_stays)

-- ---- a step that is taken back

module _ {Machine Memory Place Form : Type 0} where
  -- a state whose step is undone in its memory, its threads and its count
  pub taken_back : (rules : Rules Memory Place) (program : Program) (source next : State Machine Memory Place Form)
      (t : ℕ) (made : step rules program source t ≡ Some next) {thread : Thread Place} {memory : Memory}
      {threads : List (Thread Place)} → slice_get source.threads t ≡ Some thread → memory ≡ source.memory
      → threads ≡ slice_set next.threads t thread
      → ◌≡◌ {A = State Machine Memory Place Form}
      (record { memory = memory; threads = threads; steps = next.steps - 1; astray = None }) source
  taken_back rules program source next t made {thread} {threads = threads} was m set =
      step_parts rules program _ source next t made (λ there at_t op at_op is.
      let acted = rules.act op (place_or there.place (rules.first op)) source.memory in
      let parts = access_parts source t (at_step rules source op there) acted in
      let restored : threads ≡ source.threads =
      rw (set, is, parts.2, set-set, ← get_or_from_slice_get source.threads t thread thread was)
      (set-get_or source.threads t thread) in
      let steps : next.steps - 1 ≡ source.steps = rw (is, parts.5) (omega arith) in
      rw (m, restored, steps, ← source_not_astray rules program source next t made) refl)
