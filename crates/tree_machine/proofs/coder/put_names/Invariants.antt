use Rattle.std.proofs.Common.{◌≡◌, ◌+◌, length, take}
use Rattle.tree_machine.proofs.Codings.{AreNamed}
use Rattle.tree_machine.proofs.coder.put_names.Given as goal

-- the names so far are numbered and written
abbrev pub invariant-loop-name : goal.invariant-loop-name
invariant-loop-name l = record {
  named : AreNamed l.first (take l.name-index l.names) l.fn.numbering.order.items l.fn.queue.items
      (take l.start l.fn.bytes) l.numbering.order.items l.queue.items (take l.at l.bytes);
  cells : length l.numbering.numbers.items ≡ length l.fn.numbering.numbers.items;
  at : l.at ≡ l.start + l.name-index;
  length : length l.bytes ≡ length l.fn.bytes;
}
