use Rattle.std.proofs.Common.{OnOk}
use Rattle.tree_machine.specs.Coding.{IsVisited}
use Rattle.tree_machine.specs.Parts.{IsPartBelow}
use Rattle.tree_machine.proofs.Held.{from_held, to_held}
use Rattle.ellen.specs.Parts.{held_part}
use Rattle.ellen.proofs.memory_view.MemoryViewParts.visit_held.Goals as goal

pub visit_place-requires : goal.visit_place-requires
visit_place-requires c =
    let coder = c.args.coder.now in
    from_held held_part (IsPartBelow coder.nodes_below coder.records_below)
    c.args.self.now.threads.now c.args.index _ c.requires.in_range c.in-Some.is c.requires.named

pub returns-in-Some : goal.returns-in-Some
returns-in-Some c =
    to_held held_part
    (λ p. OnOk c.visit_place.result
    (IsVisited p c.args.coder.now c.args.out.now c.visit_place.new.coder c.visit_place.new.out))
    c.args.self.now.threads.now c.args.index _ c.requires.in_range c.in-Some.is c.visit_place.ensures

pub returns-in-None : goal.returns-in-None
returns-in-None c =
    to_held held_part (λ p. OnOk c.visit.result
    (IsVisited p c.args.coder.now c.args.out.now c.visit.new.self c.visit.new.out))
    c.args.self.now.threads.now c.args.index _ c.requires.in_range c.in-None.is c.visit.ensures
