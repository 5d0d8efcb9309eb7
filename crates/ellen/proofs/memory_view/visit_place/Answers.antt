-- What it returns follows by the library's rules alone.
use Rattle.std.proofs.Common.{rules}
use Rattle.ellen.proofs.memory_view.visit_place.Goals as goal

pub returns-in-Search : goal.returns-in-Search
returns-in-Search c = search rules
