use Rattle.std.proofs.Common.{◌≡◌, ◌+◌, ◌++◌, take, vec_len, vec_capacity}
use Rattle.tree_machine.proofs.state.copy_reserved.Given as goal

-- the threads so far are copied, within the capacity that there was
abbrev pub invariant-loop-thread : goal.invariant-loop-thread
invariant-loop-thread g l = record {
  copied : l.copies.items ≡ l.fn.copies.items ++ take l.thread-index l.threads;
  len : vec_len l.copies ≡ vec_len l.fn.copies + l.thread-index;
  capacity : vec_capacity l.copies ≡ vec_capacity l.fn.copies;
}
