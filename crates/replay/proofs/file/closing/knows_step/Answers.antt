use Rattle.std.proofs.Common.{◌∙◌, Contains, sym, subst, true≢false}
use Rattle.replay.proofs.file.closing.knows_step.Goals as goal

pub returns-clause-new : goal.returns-clause-new
returns-clause-new g c =
    λ no. (
      c.step_here.new.self,
      c.in-Ok.ensures.step,
      λ has. true≢false (sym (c.contains-is_known.ensures.1
          (subst (λ l. Contains c.args.labels.now l) (sym c.in_ok-label.ensures.label) has)) ∙ no),
    )
