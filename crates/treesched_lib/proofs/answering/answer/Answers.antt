use Rattle.std.proofs.Common.{map}
use Rattle.treesched_lib.proofs.Servings.{answers}
use Rattle.treesched_lib.proofs.answering.answer.Goals as goal

pub returns-in_ok-output-in-Ok : goal.returns-in_ok-output-in-Ok
returns-in_ok-output-in-Ok g c =
    answers (map (λ s. s.now) c.args.words.now) c.in-Ok.request c.in-Ok.ensures c.in_ok-output-in-Ok.output
    c.in_ok-output-in-Ok.ensures c.kept.result c.kept.ensures
