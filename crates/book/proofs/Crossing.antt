-- A book may go to any thread and be shared by threads, and a scratch may go to any: each type that they are made of
-- may.
-- A search through all of them at once would not come to its end.
use denote.RattleType.{RattleType}
use denote.Param.Send.{IsSend, IsSync, sendable, recorded_send, struct_send}
use denote.Struct.Declared.{shape}
use Rattle.std.proofs.Crossing.{crosses}
use Rattle.std.specs.declared.cmp.PartialEq as partial
use Rattle.std.specs.declared.hash.Hash as hash
use Rattle.sched_program.specs.contracts.program.Program as Program
use Rattle.tree_machine.specs.contracts.encode_buffer.EncodeBuffer as EncodeBuffer
use Rattle.tree_machine.specs.contracts.state.State as State
use Rattle.tree_machine.specs.contracts.undoing.Undo as Undo
use Rattle.tree_machine.specs.declared.encode.Encode as encode
use Rattle.tree_machine.specs.declared.machine.Machine as machine
use Rattle.book.specs.contracts.book.Book as Book
use Rattle.book.specs.contracts.entry.Row as Row
use Rattle.book.specs.contracts.label.Label as Label
use Rattle.book.specs.contracts.recycled.Recycled as Recycled
use Rattle.book.specs.contracts.decoding.Decoded as Decoded
use Rattle.book.specs.contracts.scratch.Scratch as Scratch
use Rattle.book.specs.contracts.table.Table as Table
use Rattle.book.proofs.ShownSent.{shown_send, shown_sync}

label_send : IsSend Label.the_row
label_send = search (sendable, crosses) depth 30

label_sync : IsSync Label.the_row
label_sync = search (sendable, crosses) depth 30

recycled_send : IsSend Recycled.the_field.row
recycled_send = search (label_send, sendable, crosses) depth 30

buffer_send : IsSend EncodeBuffer.the_row
buffer_send = search (sendable, crosses) depth 30

program_send : IsSend Program.the_row
program_send = search (sendable, crosses) depth 30

program_sync : IsSync Program.the_row
program_sync = search (sendable, crosses) depth 30

module _ (S : RattleType) (s : IsSend S) (s' : IsSync S) where
  row_send : IsSend (Row.the_row S)
  row_send = search (shown_send, sendable, crosses) depth 30

  row_sync : IsSync (Row.the_row S)
  row_sync = search (shown_sync, sendable, crosses) depth 30

  table_send : IsSend (Table.the_row S)
  table_send = search (row_send, label_send, sendable, crosses) depth 30

  table_sync : IsSync (Table.the_row S)
  table_sync = search (row_sync, label_sync, sendable, crosses) depth 30

module _ (M Mem Loc Form : RattleType) where
  module _ (m : IsSend M) (mem : IsSend Mem) (loc : IsSend Loc) (form : IsSend Form) (m' : IsSync M) (mem' : IsSync Mem)
      (loc' : IsSync Loc) (form' : IsSync Form) where
    state_send : IsSend (State.the_row M Mem Loc Form)
    state_send = search (sendable, crosses) depth 30

    state_sync : IsSync (State.the_row M Mem Loc Form)
    state_sync = search (sendable, crosses) depth 30

  module _ (e : encode.Ghosts M.Denot Mem.Denot Loc.Denot Form.Denot)
      (g : machine.Ghosts M.Denot Mem.Denot Loc.Denot Form.Denot)
      (mp : partial.Ghosts M.Denot) (ap : partial.Ghosts Mem.Denot) (ah : hash.Ghosts Mem.Denot)
      (lp : partial.Ghosts Loc.Denot) (lh : hash.Ghosts Loc.Denot)
      (fp : partial.Ghosts Form.Denot) (fh : hash.Ghosts Form.Denot) where
    scratch_from : IsSend (Undo.the_field M Mem Loc Form).row
        → IsSend (Decoded.the_row M Mem Loc Form e g mp ap ah lp lh fp fh)
        → IsSend (Scratch.the_row M Mem Loc Form e g mp ap ah lp lh fp fh)
    scratch_from undo decoded =
        let T = Scratch.the_type M Mem Loc Form e g mp ap ah lp lh fp fh in
        recorded_send _ _ _ T.to_one
        (struct_send (shape T)
        (buffer_send, (undo, (search (decoded, sendable, crosses) depth 30, (recycled_send, tt)))))

    module _ (m : IsSend M) (mem : IsSend Mem) (loc : IsSend Loc) (form : IsSend Form) (m' : IsSync M)
        (mem' : IsSync Mem) (loc' : IsSync Loc) (form' : IsSync Form) where
      decoded_send : IsSend (Decoded.the_row M Mem Loc Form e g mp ap ah lp lh fp fh)
      decoded_send = search (state_send, sendable, crosses) depth 30

      pub scratch_send : IsSend (Scratch.the_row M Mem Loc Form e g mp ap ah lp lh fp fh)
      scratch_send = scratch_from (search (sendable, crosses) depth 30) decoded_send

      pub book_send : IsSend (Book.the_row M Mem Loc Form e g mp ap ah lp lh fp fh)
      book_send = search (table_send, program_send, state_send, state_sync, sendable, crosses) depth 30

      pub book_sync : IsSync (Book.the_row M Mem Loc Form e g mp ap ah lp lh fp fh)
      book_sync = search (table_sync, program_sync, state_send, state_sync, sendable, crosses) depth 30
