use Rattle.std.proofs.Common.{map}
use Rattle.std.proofs.lemmas.List.{length-map}
use Rattle.natmit.specs.Parts.{held_part, natmit_parts}
use Rattle.natmit.specs.Laws.Parts.{parts_in_range}
use Rattle.natmit.proofs.machine.NatMitEncode.write_behind.Goals as goal

pub write_parts_behind-requires-clause-in_range : goal.write_parts_behind-requires-clause-in_range
write_parts_behind-requires-clause-in_range c =
    search (parts_in_range, c.requires.memory_in_range, c.requires.places_in_range)

-- what was read as a memory was read as parts
pub write_parts_behind-requires-clause-read : goal.write_parts_behind-requires-clause-read
write_parts_behind-requires-clause-read c =
    let read = c.requires.read in
    record {
      other = natmit_parts read.other read.held;
      twins = map held_part read.twins;
      in_range = parts_in_range read.other read.held read.in_range read.places_in_range;
      many = simp length-map read.many;
      same = read.same;
    }
