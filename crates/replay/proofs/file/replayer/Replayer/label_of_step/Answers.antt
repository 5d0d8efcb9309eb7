use Rattle.replay.proofs.BookFile.Twins.{label_of_source, source_offsets}
use Rattle.replay.proofs.file.replayer.Replayer.label_of_step.Goals as goal

pub label_after-requires-clause-offsets : goal.label_after-requires-clause-offsets
label_after-requires-clause-offsets g c κs within =
    source_offsets g.M.Encode.front_code g.M.Encode.behind_code c.args.labels.now c.args.self.now.source
    c.args.was.now.value c.in-Some.label.now c.in-Some.offsets c.requires.source c.in-Some.ensures

pub label_after-requires-clause-coded : goal.label_after-requires-clause-coded
label_after-requires-clause-coded g c κs within =
    let bound = g.met.M.Machine g.world.𝓛 g.world.𝓜 g.world.𝓡 ((λ s x. x), (λ x. x), (λ x. x), λ x. x) in
    let input = c.args.input.now in
    label_of_source (bound.lawful input.machine) (bound.forms input.machine) c.initial.ensures.limits
    input.lines.now g.M.Encode.form_code c.requires.kept c.args.self.now.source c.in-Some.label.now c.in-Some.offsets
    c.in-Some.ensures
