use Rattle.std.proofs.Common.{◌≡◌, ◌++◌, length, take}
use Rattle.std.specs.List.{flat_map}
use Rattle.tree_machine.specs.Alike.{replies_of}
use Rattle.tree_machine.specs.FormCode.{replies_code}
use Rattle.tree_machine.proofs.op_log_reading.read_all_replies.Given as goal

-- the replies of the threads so far are read
abbrev pub invariant-loop-index : goal.invariant-loop-index
invariant-loop-index g l = record {
  read : l.bytes ≡ flat_map replies_code (replies_of (take l.index l.threads)) ++ l.rest;
  length : length l.threads ≡ length l.fn.threads;
}
