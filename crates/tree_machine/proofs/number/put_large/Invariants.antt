use Rattle.std.proofs.Common.{◌≡◌, ◌≤◌, ◌++◌, length, replicate}
use Rattle.tree_machine.proofs.number.put_large.Given as goal

-- one byte 255 for each pass is written
abbrev pub invariant-loop-whole : goal.invariant-loop-whole
invariant-loop-whole l = record {
  put : l.bytes.items ≡ l.fn.bytes.items ++ replicate l._whole 255;
  longer : length l.fn.bytes.items ≤ length l.bytes.items;
}
