use Rattle.std.proofs.Common.{arith}
use Rattle.std.proofs.Math.Facts.{Fits-bits}
use Rattle.tree_machine.specs.Laws.Packed.{pushed}
use Rattle.tree_machine.proofs.replies.Replies.push.Goals as goal

pub overflow_add-self : goal.overflow_add-self
overflow_add-self c =
    let more = pushed _ _ _ _ _ c.self.view_is c.self.invariant.0 c.self.invariant.1 c.requires c.len.ensures.value
    c.added.ensures in
    Fits-bits 7 tt more.0

pub invariant_of-self : goal.invariant_of-self
invariant_of-self c =
    let more = pushed _ _ _ _ _ c.self.view_is c.self.invariant.0 c.self.invariant.1 c.requires c.len.ensures.value
    c.added.ensures in
    (omega (arith, c.self.invariant.0), more.0)
