use Rattle.std.proofs.Common.{◌≡◌, ◌+◌, length, map, take, Some}
use Rattle.tree_machine.proofs.Codings.{AreNamed}
use Rattle.tree_machine.proofs.coder.put_stack.Given as goal

-- the names so far are numbered and written
abbrev pub invariant-loop-index : goal.invariant-loop-index
invariant-loop-index l = record {
  named : AreNamed l.first (map Some (take l.index-index l.stack)) l.fn.numbering.order.items l.fn.queue.items
      (take l.start l.fn.bytes) l.numbering.order.items l.queue.items (take l.at l.bytes);
  cells : length l.numbering.numbers.items ≡ length l.fn.numbering.numbers.items;
  at : l.at ≡ l.start + l.index-index;
  length : length l.bytes ≡ length l.fn.bytes;
}
