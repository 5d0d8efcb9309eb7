-- The coder visits what the place says.
use Rattle.std.proofs.Common.{rules}
use Rattle.natmit.proofs.memory_view.visit_place.Goals as goal

pub returns-in-Down : goal.returns-in-Down
returns-in-Down c = search rules
