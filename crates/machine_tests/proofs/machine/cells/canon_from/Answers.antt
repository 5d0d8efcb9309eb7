use Rattle.std.proofs.Common.{ℕ, ◌<◌, List, [], ◌∷◌, length}
use Rattle.std.specs.Prelude.{IfSome}
use Rattle.std.specs.List.{All}
use Rattle.std.proofs.lemmas.List.Elements.{All-from_recursion}
use Rattle.std.proofs.lemmas.Map.Keys.{IsDistinct-cons}
use Rattle.tree_machine.specs.Cells.{Content, IsRooted}
use Rattle.tree_machine.specs.Laws.CellLists.{distinct_none}
use Rattle.machine_tests.proofs.machine.cells.canon_from.Goals as goal

one_root : (cells : List Content) (root : ℕ) → root < length cells
    → All (λ c. All (λ r. IfSome r (λ x. x < length cells)) c.refs) cells → IsRooted cells (root ∷ [])
one_root cells root l h = record {
  roots_in_range = All-from_recursion (λ x. x < length cells) (root ∷ []) (l, tt);
  roots_distinct = IsDistinct-cons _ root [] tt distinct_none;
  refs_in_range = h;
}

pub canon-requires : goal.canon-requires
canon-requires c =
    one_root c.args.cells.now c.args.root c.if-root-cells.true (c.are_in_range.ensures c.if-are_in_range.true)
