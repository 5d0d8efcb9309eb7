use Rattle.tree_machine.specs.FormCode.{cut_code}
use Rattle.tree_machine.specs.Laws.Codes.{cut_tells, state_codes_tell}
use Rattle.tree_machine.specs.Laws.Decoded.{decoded_alike, decoded_fits, decoded_steps}
use Rattle.tree_machine.proofs.state.State.decoded_law.Goals as goal

pub returns-clause-own : goal.returns-clause-own
returns-clause-own g c front s same =
    let bound = g.met.M.Encode g.world.𝓛 g.world.𝓜 g.world.𝓡 ((λ s x. x), (λ x. x), (λ x. x), λ x. x) in
    state_codes_tell (cut_code g.M.Encode.front_code g.M.Encode.behind_code front) g.M.Encode.own_code
    (cut_tells g.M.Encode.front_code g.M.Encode.behind_code g.M.Encode.own_code bound.tells bound.own_cut front)
    c.args.self.now s same

pub returns-clause-named : goal.returns-clause-named
returns-clause-named g c front s numbers same =
    let bound = g.met.M.Encode g.world.𝓛 g.world.𝓜 g.world.𝓡 ((λ s x. x), (λ x. x), (λ x. x), λ x. x) in
    let rules = g.M.Machine.rules c.args.machine in
    let form_of = g.M.Machine.form_of c.args.machine in
    let form_code = g.M.Encode.form_code in
    let code = cut_code g.M.Encode.front_code g.M.Encode.behind_code front in
    let decodes = bound.decodes c.args.machine front in (
      decoded_alike rules form_of form_code code decodes s c.args.self.now numbers same,
      (λ program fits. decoded_fits rules form_of form_code code decodes s c.args.self.now numbers same program fits),
      decoded_steps rules form_of form_code code decodes s c.args.self.now numbers same,
    )
