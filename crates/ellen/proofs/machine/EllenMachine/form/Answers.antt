use Rattle.ellen.specs.Laws.Parts.{parts_in_range}
use Rattle.ellen.proofs.machine.EllenMachine.form.Goals as goal

pub form_parts-requires : goal.form_parts-requires
form_parts-requires c = search (parts_in_range, c.requires.memory_in_range, c.requires.places_in_range)
