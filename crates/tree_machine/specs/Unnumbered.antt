-- Machines whose memories and places name no node or record: a pairing pairs what is equal.
use Rattle.std.specs.Prelude.{◌≡◌}
use Rattle.tree_machine.specs.Pairing.{Pairs}

abbrev pub equal_pairs : {Memory Place : Type 0} → Pairs Memory Place
equal_pairs = record { memories = λ _ memory other. memory ≡ other; places = λ _ place twin. place ≡ twin }
