use Rattle.std.proofs.Common.{rules, ◌≡◌, ◌∙◌, nat_eq}
use Rattle.std.specs.Cmp.Lexicographic.{pointwise}
use Rattle.tree_machine.specs.FormCode.{content_code}
use Rattle.tree_machine.specs.Laws.FormCode.{content_same}
use Rattle.tree_machine.specs.StateEq.{state_form_eq}
use Rattle.tree_machine.specs.Laws.StateExact.{state_form_equiv, state_form_exact}
use Rattle.tree_machine.proofs.form.StateFormPartialEq.eq.Goals as goal

pub returns : goal.returns
returns g c =
    let code = g.M.Encode.form_code in
    let mine : c.self.inside.bytes ≡ content_code code c.args.self.now = search rules in
    let others : c.other.inside.bytes ≡ content_code code c.args.other.now = search rules in
    c.eq.ensures ∙ (λ i. pointwise nat_eq (mine i) (others i))
    ∙ content_same code g.met.M.Encode.form_tells (state_form_eq g.M.Form.PartialEq.eq)
    (state_form_exact g.M.Form.PartialEq.eq g.met.M.Machine.form_exact)
    (state_form_equiv g.M.Form.PartialEq.eq g.met.M.Machine.form_exact g.met.M.Form.Eq.laws) c.args.self.now
    c.args.other.now
