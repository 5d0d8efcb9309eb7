-- A memory with places in range is paired with itself, and what is paired node by node is in range; so every access
-- keeps the numbers in range.
use Rattle.std.specs.Prelude.{List, [], length, Option, IfSome, All}
use Rattle.std.specs.List.{AllZip}
use Rattle.std.proofs.Common.{arith}
use Rattle.std.proofs.lemmas.List.{length-map}
use Rattle.natmit.specs.Types.{Op, NatMit, NatMitMem, NatMitLoc}
use Rattle.tree_machine.specs.Pairing.{Pairing, IsAmong, AreHeldPaired}
use Rattle.tree_machine.specs.Parts.{IsPartsPairing}
use Rattle.tree_machine.specs.Rules.{IsOutcomeInRange}
use Rattle.tree_machine.specs.Laws.PairedRange.{selves, selves_cover, self_pairing, paired_in_range}
use Rattle.tree_machine.specs.Laws.PairedRange.{act_kept as kept_by_pairs}
use Rattle.natmit.specs.NatMitRules.{natmit_rules}
use Rattle.natmit.specs.Pairs.{AreMemoriesPaired, ArePlacesPaired}
use Rattle.natmit.specs.Parts.{natmit_parts}
use Rattle.natmit.specs.Range.{IsInRange, IsPlaceInRange}
use Rattle.natmit.specs.Table.{act}
use Rattle.natmit.specs.Laws.PairedAccesses.{IsWhole}
use Rattle.natmit.specs.Laws.PairedAppends.{places_extend}
use Rattle.natmit.specs.Laws.PairedSteps.{act_keeps}
use Rattle.natmit.specs.Laws.Parts.{pairing_to, pairing_from, parts_in_range, values_in_range}

abbrev ArePlacesIn : NatMitMem → List (Option NatMitLoc) → Type 0
ArePlacesIn memory held = All (λ place. IfSome place (IsPlaceInRange memory)) held

abbrev AreAllPaired : Pairing → List (Option NatMitLoc) → List (Option NatMitLoc) → Type 0
AreAllPaired p held others = AllZip (AreHeldPaired (ArePlacesPaired (IsAmong p.nodes))) held others

-- what is in range is paired with itself
pub self_paired : (memory : NatMitMem) (held : List (Option NatMitLoc)) → IsInRange memory → ArePlacesIn memory held
    → (p : Pairing) × IsWhole p memory × AreMemoriesPaired (IsAmong p.nodes) memory memory × AreAllPaired p held held
self_paired memory held h places =
    let parts = natmit_parts memory held in
    let nodes = selves (length memory.nodes) in
    let paired : IsPartsPairing (IsAmong nodes) (IsAmong []) 2 parts parts =
    rw length-map at (self_pairing 2 parts (parts_in_range memory held h places)) in
    let back = pairing_from memory memory held held (IsAmong nodes) (IsAmong []) paired in
    (record { nodes = nodes; records = [] }, selves_cover memory.nodes, back.0, back.1)

-- where each node is paired, the memory is in range
pub whole_in_range : (p : Pairing) (memory other : NatMitMem) (held others : List (Option NatMitLoc)) → IsWhole p memory
    → AreMemoriesPaired (IsAmong p.nodes) memory other → AreAllPaired p held others
    → IsInRange memory × ArePlacesIn memory held
whole_in_range p memory other held others whole h places =
    values_in_range memory held
    (paired_in_range (IsAmong p.nodes) (IsAmong []) 2 (natmit_parts memory held) (natmit_parts other others)
    (pairing_to memory other held others (IsAmong p.nodes) h places) (rw length-map whole)
    (λ x below. absurd (omega arith)))

-- every access keeps in range the memory, what the outcome names, and what another thread holds
pub act_kept : (machine : NatMit) (op : Op) (place : NatMitLoc) (other : Option NatMitLoc) (memory : NatMitMem)
    → IsInRange memory → IsPlaceInRange memory place → IfSome other (IsPlaceInRange memory)
    → IsInRange (act machine op place memory).0
    × IsOutcomeInRange (natmit_rules machine) (act machine op place memory).0 (act machine op place memory).1
    × IfSome other (IsPlaceInRange (act machine op place memory).0)
act_kept machine =
    kept_by_pairs (natmit_rules machine) IsWhole self_paired whole_in_range
    (λ p q place twin more. places_extend (IsAmong p.nodes) (IsAmong q.nodes) more.nodes place twin)
    (λ op p place twin memory other whole h at.
    let kept = act_keeps p memory other h machine op place twin at in (kept.steps, kept.whole whole))
