-- The machine keeps its numbers in range and its pairings, and begins with a memory that keeps search order.
use Rattle.std.specs.Prelude.{Some, None}
use Rattle.tree_machine.specs.Pairing.{IsAmong}
use Rattle.tree_machine.specs.Rules.{AreLawful}
use Rattle.tree_machine.specs.Laws.SearchOrderPairs.{search_order_paired}
use Rattle.ellen.specs.Types.{Ellen}
use Rattle.ellen.specs.Memory.{shapes}
use Rattle.ellen.specs.EllenRules.{ellen_rules}
use Rattle.ellen.specs.Laws.Astray.{astray_unchanged}
use Rattle.ellen.specs.Laws.Initial.{initial_in_range, initial_ordered}
use Rattle.ellen.specs.Laws.PairedAccesses.{seen}
use Rattle.ellen.specs.Laws.PairedAppends.{places_weaker}
use Rattle.ellen.specs.Laws.PairedSteps.{act_keeps}
use Rattle.ellen.specs.Laws.Range.{act_kept}

pub ellen_lawful : (machine : Ellen) → AreLawful (ellen_rules machine)
ellen_lawful machine = record {
  initial_in_range = λ keys _. initial_in_range keys;
  initial_ordered = initial_ordered;
  first_in_range = λ op memory h. (tt, h.root);
  act_in_range = λ op place memory h at. (act_kept machine op place None memory h at tt).0;
  outcome_in_range = λ op place memory h at. (act_kept machine op place None memory h at tt).1;
  others_in_range = λ op place other memory h at held. (act_kept machine op place (Some other) memory h at held).2;
  astray_unchanged = astray_unchanged machine;
  pairs_lawful = record {
    first_paired = λ op p memory twin h. (tt, h.root);
    places_extend =
        λ p q place twin more. places_weaker (IsAmong p.nodes) (IsAmong q.nodes) (IsAmong p.records)
        (IsAmong q.records) more.nodes more.records place twin;
    ordered_paired =
        λ p memory twin h. search_order_paired (IsAmong p.nodes) (shapes memory) (shapes twin)
        (seen (IsAmong p.nodes) (IsAmong p.records) memory twin h) h.root;
    act_paired = λ op p place twin memory other h g. (act_keeps machine op p memory other h place twin g).paired;
  };
}
