-- What a lawful book says of all schedules.
use Rattle.std.proofs.Common.{◌≡◌, ℕ, zero, suc, ◌+◌, ◌<◌, ◌≤◌, ◌∙◌, inl, inr, Bool, Some, List, [], ◌∷◌, length, ap}
use Rattle.std.proofs.Common.{sym, arith}
use Rattle.std.proofs.lemmas.Bool.{cases_lt}
use Rattle.std.proofs.lemmas.Option.{option_and_then_some, same_Some}
use Rattle.book.specs.Entries.{Finding, Expanded, Entry, At}
use Rattle.replay.specs.Schedule.{AreOneBy, StepMachine, IsMachine, Merges, run, after}
use Rattle.book.specs.Law.{StandsFor, StandsForReached, IsLawful}

module _ {S : Type 0} (m : StepMachine S) (Same : S → S → Type 0) (right : S → Finding → Type 0) (es : List (Entry S))
    (law : IsLawful m Same right es) where
  -- what is so of the start, and of each state that a step reaches from one of which it is so, is so of all states
  pub along_origins : (P : ℕ → S → Type 0) → P 0 m.start
      → ((i j t : ℕ) (r s : S) → i < j → m.step r t ≡ Some s → P i r → P j s)
      → (i : ℕ) (e : Entry S) → At es i e → P i e.state
  along_origins P first next i e at = go (i + 1) i e at (omega arith)
    where
      go : (n i : ℕ) (e : Entry S) → At es i e → i < n → P i e.state
      go zero i e at less = absurd (omega arith)
      go (suc n) i e at less =
          elim (cases_lt 0 i) [
            | inl later ↦ (
                let o = law.origins i e at later in
                next o.origin.parent i o.origin.thread o.parent.state e.state o.earlier o.step
                (go n o.origin.parent o.parent o.entered (omega (arith, o.earlier))))
            | inr none ↦ (
                let zero_at : i ≡ 0 = omega arith in
                let start = same_Some law.start.0 e (sym law.start.1 ∙ (rw zero_at at at)) in
                rw (zero_at, ← start, law.start.2) first)
          ]

module _ {S : Type 0} (m : StepMachine S) (same : S → S → Bool) (right : S → Finding → Type 0)
    (machine : IsMachine m) (merges : Merges m same) where
  -- where each entry of less than n steps is expanded, what a schedule of at most n steps reaches is stood for
  pub stands_along : (entries : List (Entry S)) → IsLawful m (AreOneBy same) right entries
      → StandsForReached m (AreOneBy same) entries
  stands_along entries law n done [] r s fits here leads short = let e : r ≡ s = cc in rw (← e) here
  stands_along entries law n done (t ∷ c) r s fits (i, e, at, one, bounded) leads short =
      option_and_then_some (λ (u : S). run m u c) (m.step r t) s leads
      (λ (u : S) (first : m.step r t ≡ Some u) (rest : run m u c ≡ Some s).
      let alike = merges.steps_alike e.state r u t (law.fit i e at) fits one first in
      let next = law.stands i t e alike.0 at (done i e at (omega arith)) alike.1 in
      let up = machine.one_more r u t first in
      let over = machine.one_more e.state alike.0 t alike.1 in
      stands_along entries law n done c u s (machine.step_fits r u t fits first)
      (next.0, next.1, next.2, merges.joined next.1.state alike.0 u next.3 alike.2, omega (arith, next.4)) rest
      (omega arith))

  -- so a schedule of at most n steps reaches a state that is stood for
  pub stands_after : (entries : List (Entry S)) → IsLawful m (AreOneBy same) right entries → (n : ℕ)
      → ((i : ℕ) (e : Entry S) → At entries i e → m.steps e.state < n → e.mark ≡ Expanded)
      → (c : List ℕ) (s : S) → length c ≤ n → after m c ≡ Some s → StandsFor m (AreOneBy same) entries s
  stands_after entries law n done c s short leads =
      let first = law.start in
      stands_along entries law n done c m.start s machine.start_fits
      (0, first.0, first.1, rw first.2 (merges.itself m.start), omega (arith, ap m.steps first.2)) leads
      (omega (arith, machine.from_zero))
