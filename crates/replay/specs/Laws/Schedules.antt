-- Schedules with one step more, and states that stand for every state that a schedule reaches.
use Rattle.std.proofs.Common.{◌≡◌, ℕ, Option, Some, None, List, [], ◌∷◌, ◌++◌, refl, ◌∙◌, subst}
use Rattle.std.specs.Option.{option_and_then}
use Rattle.std.proofs.lemmas.Option.{option_and_then_some}
use Rattle.replay.specs.Schedule.{StepMachine, IsMachine, run, after}
use Rattle.replay.specs.Closed.{IsAlikeToOneOf, AreClosed}

module _ {S : Type 0} (m : StepMachine S) where
  -- a schedule with one more thread leads where the thread's step does
  run_more : (c : List ℕ) (r u : S) (t : ℕ) → run m r c ≡ Some u → run m r (c ++ t ∷ []) ≡ m.step u t
  run_more [] r u t h = let e : r ≡ u = cc in rw e (itself (m.step u t))
    where
      itself : (o : Option S) → option_and_then (λ (x : S). Some x) o ≡ o
      itself None = refl
      itself (Some x) = refl
  run_more (w ∷ c) r u t h =
      option_and_then_some (λ (x : S). run m x c) (m.step r w) u h
      (λ (x : S) (first : m.step r w ≡ Some x) (rest : run m x c ≡ Some u). rw first (run_more c x u t rest))

  pub run_push : (c : List ℕ) (r u v : S) (t : ℕ) → run m r c ≡ Some u → m.step u t ≡ Some v
      → run m r (c ++ t ∷ []) ≡ Some v
  run_push c r u v t h leads = run_more c r u t h ∙ leads

  pub run_stops : (c : List ℕ) (r u : S) (t : ℕ) → run m r c ≡ Some u → m.step u t ≡ None → run m r (c ++ t ∷ []) ≡ None
  run_stops c r u t h stuck = run_more c r u t h ∙ stuck

-- closed states
module _ {S : Type 0} (m : StepMachine S) (machine : IsMachine m) (Alike : S → S → Type 0)
    (joined : (r s u : S) → m.Fits r → m.Fits s → m.Fits u → Alike r s → Alike s u → Alike r u)
    (steps_alike : (r s u : S) (t : ℕ) → m.Fits r → m.Fits s → Alike r s → m.step s t ≡ Some u
    → (v : S) × (m.step r t ≡ Some v) × Alike v u)
    (states : List S) (closed : AreClosed m Alike states) where
  covered_along : (c : List ℕ) (r s : S) → m.Fits r → IsAlikeToOneOf Alike states r → run m r c ≡ Some s
      → IsAlikeToOneOf Alike states s
  covered_along [] r s fits here leads = let e : r ≡ s = cc in subst (λ x. IsAlikeToOneOf Alike states x) e here
  covered_along (t ∷ c) r s fits here leads =
      option_and_then_some (λ (u : S). run m u c) (m.step r t) s leads
      (λ (u : S) (first : m.step r t ≡ Some u) (rest : run m u c ≡ Some s).
      let here_fits = closed.fit here.0 here.1 here.2 in
      let u_fits = machine.step_fits r u t fits first in
      let twin = steps_alike here.1 r u t here_fits fits here.3 first in
      let twin_fits = machine.step_fits here.1 twin.0 t here_fits twin.1 in
      let there = closed.steps here.0 t here.1 twin.0 here.2 twin.1 in
      let one = joined there.1 twin.0 u (closed.fit there.0 there.1 there.2) twin_fits u_fits there.3 twin.2 in
      covered_along c u s u_fits (there.0, there.1, there.2, one) rest)

  -- one of them is alike to each state that a schedule reaches
  pub covered : (c : List ℕ) (s : S) → after m c ≡ Some s → IsAlikeToOneOf Alike states s
  covered c s leads = covered_along c m.start s machine.start_fits closed.start leads
