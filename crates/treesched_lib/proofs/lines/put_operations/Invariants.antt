use Rattle.std.proofs.Common.{◌≡◌, ◌++◌, take}
use Rattle.std.specs.List.{flat_map}
use Rattle.std.specs.String.{string_bytes}
use Rattle.treesched_lib.specs.Lines.{operation_text}
use Rattle.treesched_lib.proofs.lines.put_operations.Given as goal

abbrev pub invariant-loop-id : goal.invariant-loop-id
invariant-loop-id l = string_bytes l.page ≡ string_bytes l.initial.page
    ++ flat_map (λ e. operation_text l.program l.history e.0) (take l.id-index l.id-items)
