-- What the machine means.
use Rattle.tree_machine.specs.Rules.{Rules}
use Rattle.tree_machine.specs.SearchOrder.{KeepsSearchOrder}
use Rattle.ellen.specs.Types.{Ellen, EllenMem, EllenLoc}
use Rattle.ellen.specs.Pairs.{ellen_pairs}
use Rattle.ellen.specs.Memory.{shapes}
use Rattle.ellen.specs.Initial.{initial_memory}
use Rattle.ellen.specs.Range.{IsInRange, IsPlaceInRange}
use Rattle.ellen.specs.Table.{first_place, act}

abbrev pub ellen_rules : Ellen → Rules EllenMem EllenLoc
ellen_rules machine =
    record {
      initial = initial_memory;
      first = λ _. first_place;
      act = act machine;
      IsOrdered = λ memory. KeepsSearchOrder (shapes memory);
      IsInRange = IsInRange;
      IsPlaceInRange = IsPlaceInRange;
      pairs = ellen_pairs;
    }
