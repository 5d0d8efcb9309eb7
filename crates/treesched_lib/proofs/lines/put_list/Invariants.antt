use Rattle.std.proofs.Common.{◌≡◌, ◌++◌, codes, take}
use Rattle.std.specs.Fmt.{decimal}
use Rattle.std.specs.List.{flat_map}
use Rattle.std.specs.String.{string_bytes}
use Rattle.treesched_lib.proofs.lines.put_list.Given as goal

abbrev pub invariant-loop-number : goal.invariant-loop-number
invariant-loop-number l = string_bytes l.page ≡ string_bytes l.initial.page
    ++ flat_map (λ m. codes "," ++ decimal m) (take l.number-index l.rest)
