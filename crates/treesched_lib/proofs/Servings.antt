-- What an answer comes to.
use Rattle.std.proofs.Common.{◌≡◌, ◌∙◌, ◌+◌, ◌<◌, ◌≤◌, ℕ, Bool, true, None, List, length, take, nat_lt, false}
use Rattle.std.proofs.Common.{subst, arith, refl, sym, ap, inl, inr, ◌⊎◌}
use Rattle.std.specs.Prelude.{IsSome}
use Rattle.std.proofs.lemmas.Bool.Decides.{nat_tests}
use Rattle.std.proofs.lemmas.List.{take_all}
use Rattle.replay.specs.Replay.{StopsAt}
use Rattle.replay.specs.Schedule.{StepMachine, after}
use Rattle.replay.specs.declared.replayed.ReplayFault.TheVariants.{NotEnabled}
use Rattle.std.specs.Prelude.{IfOk, Result, ◌-◌, get_or}
use Rattle.std.proofs.lemmas.Option.{slice_get-get_or}
use Rattle.std.proofs.lemmas.Result.{IfOk-weaker}
use Rattle.sched_program.specs.Program.{Program}
use Rattle.tree_machine.specs.Rules.{Rules}
use Rattle.replay.specs.Findings.{machine_of}
use Rattle.replay.specs.declared.replayed.ReplayFault.{ReplayFault}
use Rattle.treesched_lib.specs.Lines.{IsRefusal, no_step_text}
use Rattle.treesched_lib.specs.Serving.{IsAnswerTo, IsKept, IsReplayed, IsServedBySome, IsStuck}
use Rattle.clap.specs.Walk.{Text}
use Rattle.words.specs.Reading.{AskFor}
use Rattle.words.specs.declared.request.Request.{Request}
use Rattle.treesched_lib.specs.declared.serving.Output.{Output}

module _ {S : Type 0} (m : StepMachine S) (schedule : List ℕ) where
  -- a schedule stops at one of its own steps
  pub stops_within : (n : ℕ) → StopsAt m schedule (NotEnabled n) → (i : ℕ) × ((n ≡ i + 1) × (i < length schedule))
  stops_within n (i, is, went, stopped) = (i, (is, go (nat_lt i (length schedule)) refl))
    where
      past : length schedule ≤ i → ⊥
      past h =
          let all : take i schedule ≡ schedule = take_all i schedule h in
          let more : take n schedule ≡ schedule = take_all n schedule (omega arith) in
          let none : after m (take i schedule) ≡ None = ap (after m) (all ∙ sym more) ∙ stopped in
          let some : IsSome {T = S} None = subst IsSome none went in cc

      go : (b : Bool) → nat_lt i (length schedule) ≡ b → i < length schedule
      go true e = grind (arith, nat_tests)
      go false e = absurd (past (grind (arith, nat_tests)))

module _ (Machine Form : Type 0) {Memory Place : Type 0} (rules : Rules Memory Place) (program : Program)
    (schedule : List ℕ) where
  pub stuck : {E : Type 0} (f : ReplayFault) (n : ℕ) → f ≡ NotEnabled n
      → StopsAt (machine_of {Machine = Machine} {Form = Form} rules program) schedule f
      → (r : Result Output E) → IfOk r (IsRefusal 4 (no_step_text n (get_or schedule (n - 1) 0)))
      → IfOk r
      (λ output. IsReplayed Machine Form rules program schedule output
      ⊎ IsStuck Machine Form rules program schedule output)
  stuck f n is stops r printed =
      let machine = machine_of {Machine = Machine} {Form = Form} rules program in
      let here : StopsAt machine schedule (NotEnabled n) = rw is at stops in
      let (i, (e, within)) = stops_within machine schedule n here in
      let place : n - 1 ≡ i = omega arith in
      IfOk-weaker r _ _ (λ output h. inr (record {
        before = i;
        thread = get_or schedule i 0;
        stops = subst (λ (k : ℕ). StopsAt machine schedule (NotEnabled k)) e here;
        is_next = slice_get-get_or schedule i 0 within;
        printed = subst (λ (k : ℕ). IsRefusal 4 (no_step_text k (get_or schedule i 0)) output) e
            (subst (λ (k : ℕ). IsRefusal 4 (no_step_text n (get_or schedule k 0)) output) place h);
      })) printed

-- what is kept of an output that is served for the request of the words answers them
pub answers : (words : List Text) (asked : Request) → AskFor words asked → {E : Type 0} (served : Output)
    → IsServedBySome asked served
    → (r : Result Output E) → IfOk r (IsKept asked served) → IfOk r (IsAnswerTo words)
answers words asked ask served some r kept = IfOk-weaker r _ _ (λ output h. inl (asked, ask, (served, some, h))) kept
