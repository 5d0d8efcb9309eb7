use Rattle.std.proofs.Common.{◌∙◌}
use Rattle.std.proofs.lemmas.Result.{IfOk-weaker}
use Rattle.treesched_lib.proofs.refusals.book_refused.Goals as goal

pub returns-in_ok-text-in_default : goal.returns-in_ok-text-in_default
returns-in_ok-text-in_default c =
    let cause = c.as_str-cause.ensures.value ∙ c.in_ok-cause-in_default.ensures in
    let text = rw cause at (c.as_str.ensures.value ∙ c.in_ok-text-in_default.ensures.ok) in
    IfOk-weaker c.refusal.result _ _ (λ output h. (c.in_default.not-OutOfMemory, rw text at h)) c.refusal.ensures
