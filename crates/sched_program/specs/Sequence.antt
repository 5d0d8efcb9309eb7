-- What a list ends as, once it is no longer written through a reference to its values.
use Rattle.std.specs.Prelude.{List}
use Rattle.std.specs.Borrow.{Lends, Fml, RattleType, MutBor}
use Rattle.std.specs.Global.{Vec}
use Rattle.std.specs.contracts.vec.Vec.{the_row as vec_row}
use Rattle.std.specs.contracts.alloc.Global as heap
use Rattle.std.specs.contracts.impls.GlobalAllocator.TheImpl.{ghosts}
use Rattle.sched_program.specs.contracts.sequence.Sequence.{the_row}

module _ (T : RattleType) (list : MutBor (List T.Denot)) where
  -- its values are those of the `Vec` at last
  abbrev pub lends_vec : MutBor (Vec T.Denot) → Fml
  lends_vec values = Lends (the_row T) (vec_row T heap.the_row ghosts) list values (λ last. last.items)
