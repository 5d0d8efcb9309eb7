use Rattle.std.proofs.Common.{◌≡◌, ◌≤◌, ◌+◌, ◌*◌, ◌++◌, length, take}
use Rattle.std.specs.List.{flat_map}
use Rattle.tree_machine.specs.Flat.{number_code}
use Rattle.tree_machine.proofs.output.put_facts.Given as goal

-- the facts so far are written, within the slice
abbrev pub invariant-loop-fact : goal.invariant-loop-fact
invariant-loop-fact l = record {
  put : take l.at l.bytes ≡ take l.start l.fn.bytes ++ flat_map number_code (take l.fact-index l.facts);
  at : l.at ≤ l.start + 2 * l.fact-index;
  length : length l.bytes ≡ length l.fn.bytes;
}
