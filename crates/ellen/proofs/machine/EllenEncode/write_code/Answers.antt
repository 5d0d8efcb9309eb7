use Rattle.ellen.specs.Laws.Parts.{parts_in_range}
use Rattle.ellen.proofs.machine.EllenEncode.write_code.Goals as goal

pub write_parts-requires : goal.write_parts-requires
write_parts-requires c = search (parts_in_range, c.requires.memory_in_range, c.requires.places_in_range)
