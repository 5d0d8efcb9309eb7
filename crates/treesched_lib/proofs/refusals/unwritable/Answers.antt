use Rattle.std.proofs.lemmas.Result.{IfOk-weaker}
use Rattle.treesched_lib.proofs.refusals.unwritable.Goals as goal

pub returns : goal.returns
returns c =
    IfOk-weaker c.refusal.result _ _ (λ output h. rw (c.as_str.ensures.value, c.in_ok-text.ensures.ok) at h)
    c.refusal.ensures
