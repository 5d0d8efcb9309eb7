-- The types of memories, places and machines, and their variants, from one place. Declares nothing.
pub use Rattle.sched_program.specs.declared.operation.Op.{Op}
pub use Rattle.sched_program.specs.declared.operation.Op.TheVariants.{Insert, Delete, Find}
pub use Rattle.tree_machine.specs.declared.front.Front.{Front}
pub use Rattle.tree_machine.specs.declared.machine.Outcome.{Outcome}
pub use Rattle.tree_machine.specs.declared.machine.Outcome.TheVariants.{Goes, Replies, Astray}
pub use Rattle.tree_machine.specs.declared.search_order.Side.{Side}
pub use Rattle.tree_machine.specs.declared.search_order.Side.TheVariants.{Left, Right}
pub use Rattle.natmit.specs.declared.machine.NatMit.{NatMit}
pub use Rattle.natmit.specs.declared.memory.Word.{Word}
pub use Rattle.natmit.specs.declared.memory.Node.{Node}
pub use Rattle.natmit.specs.declared.memory.Node.TheVariants.{Leaf, Internal}
pub use Rattle.natmit.specs.declared.memory.NatMitMem.{NatMitMem}
pub use Rattle.natmit.specs.declared.place.Mode.{Mode}
pub use Rattle.natmit.specs.declared.place.Mode.TheVariants.{Plain, Owner}
pub use Rattle.natmit.specs.declared.place.Path.{Path}
pub use Rattle.natmit.specs.declared.place.NatMitLoc.{NatMitLoc}
pub use Rattle.natmit.specs.declared.place.NatMitLoc.TheVariants.{Begin, Down, Put, Flag, Look, CleanRead, Tag, Sibling}
pub use Rattle.natmit.specs.declared.place.NatMitLoc.TheVariants.{Swing}
