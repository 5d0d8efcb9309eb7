-- The types of memories, places and machines, and their variants, from one place. Declares nothing.
pub use Rattle.sched_program.specs.declared.operation.Op.{Op}
pub use Rattle.sched_program.specs.declared.operation.Op.TheVariants.{Insert, Delete, Find}
pub use Rattle.tree_machine.specs.declared.front.Front.{Front}
pub use Rattle.tree_machine.specs.declared.machine.Outcome.{Outcome}
pub use Rattle.tree_machine.specs.declared.machine.Outcome.TheVariants.{Goes, Replies, Astray}
pub use Rattle.tree_machine.specs.declared.search_order.Side.{Side}
pub use Rattle.ellen.specs.declared.machine.Ellen.{Ellen}
pub use Rattle.ellen.specs.declared.memory.UpdateWord.{UpdateWord}
pub use Rattle.ellen.specs.declared.memory.Node.{Node}
pub use Rattle.ellen.specs.declared.memory.Node.TheVariants.{Leaf, Internal}
pub use Rattle.ellen.specs.declared.memory.InsertRecord.{InsertRecord}
pub use Rattle.ellen.specs.declared.memory.DeleteRecord.{DeleteRecord}
pub use Rattle.ellen.specs.declared.memory.Record.{Record}
pub use Rattle.ellen.specs.declared.memory.Record.TheVariants.{Ins, Del}
pub use Rattle.ellen.specs.declared.memory.EllenMem.{EllenMem}
pub use Rattle.ellen.specs.declared.place.Above.{Above}
pub use Rattle.ellen.specs.declared.place.Base.{Base}
pub use Rattle.ellen.specs.declared.place.Resume.{Resume}
pub use Rattle.ellen.specs.declared.place.SearchLoc.{SearchLoc}
pub use Rattle.ellen.specs.declared.place.SearchLoc.TheVariants.{Update, Child, IFlag, InsOnly, DFlag}
pub use Rattle.ellen.specs.declared.place.HelpLoc.{HelpLoc}
pub use Rattle.ellen.specs.declared.place.HelpLoc.TheVariants.{InsChild, InsClean, Mark, Right, Other, Splice, DelClean}
pub use Rattle.ellen.specs.declared.place.HelpLoc.TheVariants.{Back}
pub use Rattle.ellen.specs.declared.place.EllenLoc.{EllenLoc}
pub use Rattle.ellen.specs.declared.place.EllenLoc.TheVariants.{Search, Help}
