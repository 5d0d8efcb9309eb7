use Rattle.std.proofs.Common.{◌≡◌, ◌+◌, ◌≤◌, ◌++◌, List, length, map, vec_len, vec_capacity}
use Rattle.tree_machine.specs.Flat.{part_codes}
use Rattle.tree_machine.proofs.coded_part.read_values.Given as goal

-- one value for each pass is read, with capacity for all of them
abbrev pub invariant-loop-each : goal.invariant-loop-each
invariant-loop-each g l = record {
  read : (more : List g.row.V.Denot) × (l.values.items ≡ l.fn.values.items ++ more) × (length more ≡ l._each)
      × (l.bytes ≡ part_codes (map g.V.CodedPart.part more) ++ l.rest);
  len : vec_len l.values ≡ vec_len l.fn.values + l._each;
  place : vec_len l.fn.values + l.count ≤ vec_capacity l.values;
}
