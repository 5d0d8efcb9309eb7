use Rattle.std.proofs.Common.{◌≡◌, ◌∙◌, ◌≤◌, sym, length, arith, refl, rules}
use Rattle.std.proofs.lemmas.Bool.{ltb-true, lt-ltb}
use Rattle.reports.proofs.ReadOff.{IsKnown, sound_before, unsound_from}
use Rattle.reports.proofs.Soundness.{none_unsound}
use Rattle.reports.proofs.reading.is_sound_to.Goals as goal

pub returns-in-None : goal.returns-in-None
returns-in-None g c = (
  (λ _ i e at bounded. none_unsound c.args.book.now.entries (sym c.first_fault.ensures ∙ c.in-None.is) i e at),
  (λ _. refl),
)

pub returns-in_ok-schedule_of-in-Some : goal.returns-in_ok-schedule_of-in-Some
returns-in_ok-schedule_of-in-Some g c =
    let known : IsKnown g.M.Machine.rules c.args.book.now = search rules in
    let first = sym c.first_fault.ensures ∙ c.in-Some.is in
    let way = c.in_ok-schedule_of-in-Some.ensures.leads in
    let v = c.in_ok-schedule_of-in-Some.field-0 in
    let long : c.len.result ≡ length v.items = c.len.ensures ∙ v.ok.0 in (
      (λ h. sound_before known c.in-Some.id first v way c.args.steps
          (omega (arith, ltb-true c.args.steps c.len.result h))),
      (λ sound.
          let less : ¬ (c.len.result ≤ c.args.steps) =
          λ ge. unsound_from known c.in-Some.id first v way c.args.steps (omega arith) sound in
          lt-ltb c.args.steps c.len.result (omega arith)),
    )
