use Rattle.std.proofs.Common.{◌≡◌, ◌∙◌, ◌<◌, ℕ, sym, ap, refl, IsSome, IfSome, IfNone, is_some, Option, None, Some}
use Rattle.std.proofs.lemmas.Bool.{false≢true}
use Rattle.book.specs.Books.{machine_in}
use Rattle.reports.specs.Reading.{IsCutIn, IsWorkedOff}
use Rattle.reports.specs.Reporting.{IsBookOf}
use Rattle.reports.proofs.alone.answer_alone.Goals as goal

is_answered : (W A : Type 0) (n : ℕ) (K : ℕ → ℕ → Type 0) (o : Option ℕ) → IfNone o W
    → IfSome o (λ i. (d : ℕ) × (d < n) × K d i) → (o ≡ None → W → A) → IfSome o (λ i. (d : ℕ) → d < n → K d i → A) → A
is_answered W A n K None worked cut finished stopped = finished refl worked
is_answered W A n K (Some i) worked cut finished stopped = stopped cut.0 cut.1 cut.2

-- what was driven is read
pub unreachable-requires : goal.unreachable-requires
unreachable-requires g c =
    let new = c.drive.new.book in
    let kept = c.in_ok-cut.ensures.kept in
    let opened = c.requires.asked in
    let steps : c.steps.result ≡ c.args.options.steps = c.steps.ensures in
    let asked : IsBookOf c.args.machine c.args.program.now c.args.options new = record {
      machine = kept.machine ∙ opened.machine;
      program = kept.program ∙ opened.program;
      limit = kept.limit ∙ opened.limit;
      merge = kept.merge ∙ opened.merge;
    } in
    let some =
    is_answered (IsWorkedOff (machine_in g.M.Machine.rules c.args.book.now).steps new.entries c.args.options.steps)
    (IsSome c.in_ok-answer.field-0) c.args.options.steps (IsCutIn g.M.Machine.rules new) c.in_ok-cut.cut
    (rw steps at c.in_ok-cut.ensures.done) (rw steps at c.in_ok-cut.ensures.cut)
    (c.in_ok-answer.ensures.finished asked) (c.in_ok-answer.ensures.stopped asked) in
    false≢true (sym (ap is_some c.in-None.is) ∙ some)
