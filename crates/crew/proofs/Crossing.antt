-- What the workers of a layer share may be shared: each type that it is made of may. A search through all of them at
-- once would not come to its end, and each has few facts to choose from, for the same reason.
use mathlib.Core.List.{[], ◌∷◌}
use mir.Syntax.{named}
use base.Fml.{Lft}
use denote.Ref.{NamedLft, ShrRef}
use denote.Struct.Struct.{Shape, Struct}
use denote.RattleType.{RattleType}
use denote.Param.Send.{IsSend, IsSync, sendable, shr_sync, struct_sync}
use Rattle.std.proofs.Crossing.{crosses}
use Rattle.core.proofs.rw.Sent.{slots_sync}
use Rattle.std.specs.declared.cmp.PartialEq as partial
use Rattle.std.specs.declared.hash.Hash as hash
use Rattle.sched_program.specs.contracts.program.Program as Program
use Rattle.tree_machine.specs.declared.encode.Encode as encode
use Rattle.tree_machine.specs.declared.machine.Machine as machine
use Rattle.book.proofs.Crossing.{book_send, book_sync, scratch_send}
use Rattle.book.specs.contracts.book.Book as Book
use Rattle.book.specs.contracts.scratch.Scratch as Scratch
use Rattle.claims.proofs.Crossing.{claims_sync}
use Rattle.crew.specs.contracts.layer_run.Exploration as Exploration
use Rattle.crew.specs.contracts.layer_run.LayerRun as LayerRun

-- a reference, as a closure holds it
abbrev lent : Lft → RattleType → Shape
lent long A = record { name = []; args = []; types = []; fields = ShrRef (named 0) long A ∷ [] }

pub one_lent : (long : Lft) (A : RattleType) → IsSync A → IsSync (Struct (lent long A))
one_lent long A a = struct_sync (lent long A) (shr_sync (named 0) long A a, tt)

program_sync : IsSync Program.the_row
program_sync = search (sendable, crosses) depth 30

module _ (a : NamedLft) (M G R Mem Loc Form : RattleType)
    (e : encode.Ghosts M.Denot Mem.Denot Loc.Denot Form.Denot)
    (g : machine.Ghosts M.Denot Mem.Denot Loc.Denot Form.Denot)
    (mp : partial.Ghosts M.Denot)
    (ap : partial.Ghosts Mem.Denot) (ah : hash.Ghosts Mem.Denot) (lp : partial.Ghosts Loc.Denot)
    (lh : hash.Ghosts Loc.Denot) (fp : partial.Ghosts Form.Denot)
    (fh : hash.Ghosts Form.Denot) where
  module _ (m : IsSync M) (gate : IsSync G) (threads : IsSync R)
      (scratch : IsSend (Scratch.the_row M Mem Loc Form e g mp ap ah lp lh fp fh))
      (send : IsSend (Book.the_row M Mem Loc Form e g mp ap ah lp lh fp fh))
      (sync : IsSync (Book.the_row M Mem Loc Form e g mp ap ah lp lh fp fh)) where
    exploration_sync : IsSync (Exploration.the_field a M G R Mem Loc Form e g mp ap ah lp lh fp fh).row
    exploration_sync = search (program_sync, slots_sync, sendable, crosses) depth 30 fits 10000

  module _ (exploration : IsSync (Exploration.the_field a M G R Mem Loc Form e g mp ap ah lp lh fp fh).row) where
    whole_sync : IsSync (LayerRun.the_row a M G R Mem Loc Form e g mp ap ah lp lh fp fh)
    whole_sync = search (claims_sync, sendable, crosses) depth 30 fits 10000

  module _ (m : IsSend M) (mem : IsSend Mem) (loc : IsSend Loc) (form : IsSend Form) (m' : IsSync M)
      (mem' : IsSync Mem) (loc' : IsSync Loc) (form' : IsSync Form) (gate : IsSync G) (threads : IsSync R) where
    pub run_sync : IsSync (LayerRun.the_row a M G R Mem Loc Form e g mp ap ah lp lh fp fh)
    run_sync =
        whole_sync
        (exploration_sync m' gate threads
        (scratch_send M Mem Loc Form e g mp ap ah lp lh fp fh m mem loc form m' mem' loc' form')
        (book_send M Mem Loc Form e g mp ap ah lp lh fp fh m mem loc form m' mem' loc' form')
        (book_sync M Mem Loc Form e g mp ap ah lp lh fp fh m mem loc form m' mem' loc' form'))
