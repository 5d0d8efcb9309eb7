use Rattle.std.proofs.Common.{◌≡◌, ℕ, List, length, take, drop, ◌-◌, ◌++◌, ◌∷◌, [], arith, sym, subst}
use Rattle.words.proofs.Schedules.{Follows, HasRead, at, judged, read_more, too_long}
use Rattle.words.proofs.schedule.schedule_of.Goals as goal
use Rattle.words.proofs.schedule.schedule_of.Goals.{in_default-rest, in_default-rest-2, in_default-rest-3}
use Rattle.words.proofs.schedule.schedule_of.Goals.{in_default-rest-4}

pub returns-then-len-eq-MOST_STEPS : goal.returns-then-len-eq-MOST_STEPS
returns-then-len-eq-MOST_STEPS c =
    too_long _ c.loop-rest.threads.items c.loop-rest.rest.now c.loop-rest.invariant (omega arith) (omega arith)

pub loop-rest-preserved : goal.loop-rest-preserved
loop-rest-preserved c =
    let rest = c.loop-rest.rest.now in
    let pushed : c.push-in-44.new.self.items ≡ c.loop-rest.threads.items ++ (at rest 1 - 48) ∷ [] =
    c.in_ok-push.ensures.items in
    subst (λ (l : List ℕ). HasRead c.args.text.now l (take (length rest - 2) (drop 2 rest))) (sym pushed)
    (read_more c.args.text.now c.loop-rest.threads.items rest c.loop-rest.invariant
    (omega arith, omega arith, omega arith, omega arith) (omega arith))

pub returns : goal.returns
returns c =
    let rest = c.loop-rest.rest.now in
    let not : Follows rest → ⊥ = elim c.if-rest-lt2.branch [
      | in_default-rest w ↦ λ f. absurd (omega (arith, f.0))
      | in_default-rest-2 w ↦ λ f. absurd (omega (arith, f.1))
      | in_default-rest-3 w ↦ λ f. absurd (omega (arith, f.2))
      | in_default-rest-4 w ↦ λ f. absurd (omega (arith, f.3))
    ] in
    judged (λ v. v.items) c.loop-rest.threads c.args.text.now rest c.loop-rest.invariant not c.is_empty.result
    c.is_empty.ensures c.then_some.result c.then_some.ensures
