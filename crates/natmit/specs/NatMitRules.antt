-- What the machine means.
use Rattle.tree_machine.specs.Rules.{Rules}
use Rattle.tree_machine.specs.SearchOrder.{KeepsSearchOrder}
use Rattle.natmit.specs.Types.{NatMit, NatMitMem, Plain, NatMitLoc, Begin}
use Rattle.natmit.specs.Memory.{shapes}
use Rattle.natmit.specs.Initial.{initial_memory}
use Rattle.natmit.specs.Pairs.{natmit_pairs}
use Rattle.natmit.specs.Range.{IsInRange, IsPlaceInRange}
use Rattle.natmit.specs.Table.{act}

abbrev pub natmit_rules : NatMit → Rules NatMitMem NatMitLoc
natmit_rules machine =
    record {
      initial = initial_memory;
      first = λ _. Begin Plain;
      act = act machine;
      IsOrdered = λ memory. KeepsSearchOrder (shapes memory);
      IsInRange = IsInRange;
      IsPlaceInRange = IsPlaceInRange;
      pairs = natmit_pairs;
    }
