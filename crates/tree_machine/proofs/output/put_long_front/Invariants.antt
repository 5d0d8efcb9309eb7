use Rattle.std.proofs.Common.{◌≡◌, ◌≤◌, ◌+◌, ◌++◌, ◌∷◌, length, take}
use Rattle.std.specs.List.{flat_map}
use Rattle.tree_machine.specs.Flat.{number_code}
use Rattle.tree_machine.proofs.output.put_long_front.Given as goal

-- the facts so far are written behind the counts
abbrev pub invariant-loop-fact : goal.invariant-loop-fact
invariant-loop-fact l = record {
  put : l.bytes.items
      ≡ take l.start l.fn.bytes.items ++ 255
      ∷ (number_code (length l.facts + 1) ++ (number_code l.named ++ (number_code l.nodes
      ++ flat_map number_code (take l.fact-index l.facts))));
  longer : l.start ≤ length l.bytes.items;
}
