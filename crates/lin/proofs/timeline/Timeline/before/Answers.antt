use Rattle.lin.proofs.Timelines.{set_says}
use Rattle.lin.proofs.timeline.Timeline.before.Goals as goal

pub returns : goal.returns
returns c =
    set_says c.args.self.now c.self.inside.before (rw c.self.view_is at c.self.invariant.before) c.args.name
    c.requires.begun c.requires.place c.place_of.result _ c.place_of.ensures.value
