-- A thread that is enabled is among the enabled ones.
use Rattle.std.proofs.Common.{◌≡◌, ℕ, zero, suc, ◌+◌, Bool, true, Some, is_some, List, [], ◌∷◌, filter, refl, ap, ◌∙◌}
use Rattle.std.proofs.Common.{arith, slice_get}
use Rattle.std.specs.List.{range_with_len}
use Rattle.std.proofs.lemmas.Bool.{cond_both}
use Rattle.std.proofs.lemmas.List.FromFn.{get_or-range_with_len, length-range_with_len}
use Rattle.std.proofs.lemmas.Option.{slice_get-get_or}
use Rattle.replay.specs.Schedule.{StepMachine, IsMachine, enabled_threads}

get-filter : {X : Type 0} (p : X → Bool) (xs : List X) (k : ℕ) (x : X) → slice_get xs k ≡ Some x → p x ≡ true
    → (j : ℕ) × (slice_get (filter p xs) j ≡ Some x)
get-filter p [] k x h passes = absurd (cc)
get-filter p (w ∷ xs) zero x h passes =
    let e : w ≡ x = cc in (0, (let y : p w ≡ true = rw e passes in rw y h))
get-filter {X} p (w ∷ xs) (suc k) x h passes =
    let r = get-filter p xs k x h passes in
    cond_both (p w) (w ∷ filter p xs) (filter p xs) (λ (zs : List X). (j : ℕ) × (slice_get zs j ≡ Some x))
    (λ _. (suc r.0, r.1)) (λ _. r)

-- a thread that is enabled is among the enabled ones
pub among_enabled : {S : Type 0} (m : StepMachine S) → IsMachine m → (s r : S) (t : ℕ) → m.step s t ≡ Some r
    → (j : ℕ) × (slice_get (enabled_threads m s) j ≡ Some t)
among_enabled m machine s r t leads =
    let less = machine.is_thread s r t leads in
    let number : 0 + t ≡ t = omega arith in
    get-filter (λ (u : ℕ). is_some (m.step s u)) (range_with_len 0 m.threads) t t
    (slice_get-get_or (range_with_len 0 m.threads) t t (rw length-range_with_len less)
    ∙ ap Some (get_or-range_with_len 0 m.threads t t less ∙ number)) (rw leads refl)
