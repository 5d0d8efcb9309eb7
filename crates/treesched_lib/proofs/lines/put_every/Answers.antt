use Rattle.std.proofs.Common.{◌∙◌, append_assoc}
use Rattle.std.proofs.lemmas.Result.{IfOk-weaker}
use Rattle.std.specs.String.{string_bytes}
use Rattle.treesched_lib.proofs.lines.put_every.Goals as goal

pub returns : goal.returns
returns c =
    IfOk-weaker c.put_states.result _ _
    (λ x e. (rw c.in_ok-put_holds_for_every.ensures at e) ∙ append_assoc (string_bytes c.args.page.now) _ _)
    c.put_states.ensures
