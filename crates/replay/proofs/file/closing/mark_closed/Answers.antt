use Rattle.replay.specs.BookFile.Kept.{IsEntryClosed}
use Rattle.replay.specs.Labels.{named_by}
use Rattle.replay.proofs.BookFile.Known.{mark_set, stands_closed}
use Rattle.replay.proofs.file.closing.mark_closed.Goals as goal

pub returns-then-index-len-clause-marked : goal.returns-then-index-len-clause-marked
returns-then-index-len-clause-marked g c =
    let bound = g.met.M.Machine g.world.𝓛 g.world.𝓜 g.world.𝓡 ((λ s x. x), (λ x. x), (λ x. x), λ x. x) in
    let input = c.args.input.now in
    let label = named_by g.M.Encode.form_code (g.M.Machine.form_of input.machine) in
    let closed =
    stands_closed (bound.lawful input.machine) c.initial.ensures.limits (bound.forms input.machine)
    g.M.Encode.form_code input.lines.now c.args.labels.now c.args.index c.recall.new.replayer.state
    c.in_ok-recall.ensures.stands (c.in_ok-leads_out.ensures.none c.if-branch.false) in
    mark_set (IsEntryClosed (g.M.Machine.rules input.machine) input.program.now label input.lines.now
    c.args.labels.now) c.args.marks.now.items c.args.index c.requires.marked closed
