use Rattle.std.proofs.Common.{◌≡◌, ◌++◌, codes, take}
use Rattle.std.specs.List.{flat_map}
use Rattle.std.specs.String.{string_bytes}
use Rattle.treesched_lib.specs.Lines.{name_text}
use Rattle.treesched_lib.proofs.lines.put_order.Given as goal

abbrev pub invariant-loop-id : goal.invariant-loop-id
invariant-loop-id l = string_bytes l.page ≡ string_bytes l.initial.page
    ++ flat_map (λ i. codes " " ++ name_text i) (take l.id-index l.order)
