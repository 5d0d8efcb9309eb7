-- The machine keeps its numbers in range and its pairings, and begins with a memory that keeps search order.
use Rattle.std.specs.Prelude.{Some, None}
use Rattle.tree_machine.specs.Pairing.{IsAmong}
use Rattle.tree_machine.specs.Rules.{AreLawful}
use Rattle.tree_machine.specs.Laws.SearchOrderPairs.{search_order_paired}
use Rattle.natmit.specs.Types.{NatMit}
use Rattle.natmit.specs.Memory.{shapes}
use Rattle.natmit.specs.NatMitRules.{natmit_rules}
use Rattle.natmit.specs.Laws.Astray.{act_leaves}
use Rattle.natmit.specs.Laws.Initial.{initial_in_range, initial_ordered}
use Rattle.natmit.specs.Laws.PairedAccesses.{seen}
use Rattle.natmit.specs.Laws.PairedAppends.{places_extend}
use Rattle.natmit.specs.Laws.PairedSteps.{act_keeps}
use Rattle.natmit.specs.Laws.Range.{act_kept}

pub natmit_lawful : (machine : NatMit) → AreLawful (natmit_rules machine)
natmit_lawful machine = record {
  initial_in_range = λ keys _. initial_in_range keys;
  initial_ordered = initial_ordered;
  first_in_range = λ _ _ _. tt;
  act_in_range = λ op place memory h at. (act_kept machine op place None memory h at tt).0;
  outcome_in_range = λ op place memory h at. (act_kept machine op place None memory h at tt).1;
  others_in_range = λ op place other memory h at held. (act_kept machine op place (Some other) memory h at held).2;
  astray_unchanged = λ op place memory. act_leaves memory machine op place;
  pairs_lawful = record {
    first_paired = λ op p memory twin h. tt;
    places_extend =
        λ p q place twin more. places_extend (IsAmong p.nodes) (IsAmong q.nodes) more.nodes place twin;
    ordered_paired =
        λ p memory twin h. search_order_paired (IsAmong p.nodes) (shapes memory) (shapes twin)
        (seen (IsAmong p.nodes) memory twin h) h.root_paired;
    act_paired = λ op p place twin memory other h g. (act_keeps p memory other h machine op place twin g).steps;
  };
}
