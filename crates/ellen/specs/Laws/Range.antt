-- A memory with places in range is paired with itself, and what is paired node by node and record by record is in
-- range; so every access keeps the numbers in range.
use Rattle.std.specs.Prelude.{List, length, Option, IfSome, All}
use Rattle.std.specs.List.{AllZip}
use Rattle.std.proofs.lemmas.List.{length-map}
use Rattle.ellen.specs.Types.{Op, Ellen, EllenMem, EllenLoc}
use Rattle.tree_machine.specs.Pairing.{Pairing, IsAmong, AreHeldPaired}
use Rattle.tree_machine.specs.Parts.{IsPartsPairing}
use Rattle.tree_machine.specs.Rules.{IsOutcomeInRange}
use Rattle.tree_machine.specs.Laws.PairedRange.{selves, selves_cover, self_pairing, paired_in_range}
use Rattle.tree_machine.specs.Laws.PairedRange.{act_kept as kept_by_pairs}
use Rattle.ellen.specs.EllenRules.{ellen_rules}
use Rattle.ellen.specs.Pairs.{ellen_pairs}
use Rattle.ellen.specs.Parts.{node_part, record_part, ellen_parts}
use Rattle.ellen.specs.Range.{IsInRange, IsPlaceInRange}
use Rattle.ellen.specs.Table.{act}
use Rattle.ellen.specs.Laws.PairedAccesses.{IsWhole}
use Rattle.ellen.specs.Laws.PairedAppends.{places_weaker}
use Rattle.ellen.specs.Laws.PairedSteps.{act_keeps}
use Rattle.ellen.specs.Laws.Parts.{pairing_to, pairing_from, parts_in_range, values_in_range}

abbrev ArePlacesIn : EllenMem → List (Option EllenLoc) → Type 0
ArePlacesIn memory held = All (λ place. IfSome place (IsPlaceInRange memory)) held

abbrev AreAllPaired : Pairing → List (Option EllenLoc) → List (Option EllenLoc) → Type 0
AreAllPaired p held others = AllZip (AreHeldPaired (ellen_pairs.places p)) held others

-- what is in range is paired with itself
pub self_paired : (memory : EllenMem) (held : List (Option EllenLoc)) → IsInRange memory → ArePlacesIn memory held
    → (p : Pairing) × IsWhole p memory × ellen_pairs.memories p memory memory × AreAllPaired p held held
self_paired memory held h places =
    let parts = ellen_parts memory held in
    let nodes = selves (length memory.nodes) in
    let records = selves (length memory.records) in
    let p : Pairing = record { nodes = nodes; records = records } in
    let paired : IsPartsPairing (IsAmong nodes) (IsAmong records) 1 parts parts =
    rw (length-map memory.nodes node_part, length-map memory.records record_part) at
    (self_pairing 1 parts (parts_in_range memory held h places)) in
    let back = pairing_from (IsAmong nodes) (IsAmong records) memory memory held held paired in
    let whole : IsWhole p memory = (selves_cover memory.nodes, selves_cover memory.records) in
    (p, whole, back.0, back.1)

-- where each node and record is paired, the memory is in range
pub whole_in_range : (p : Pairing) (memory other : EllenMem) (held others : List (Option EllenLoc)) → IsWhole p memory
    → ellen_pairs.memories p memory other → AreAllPaired p held others → IsInRange memory × ArePlacesIn memory held
whole_in_range p memory other held others whole h places =
    values_in_range memory held
    (paired_in_range (IsAmong p.nodes) (IsAmong p.records) 1 (ellen_parts memory held) (ellen_parts other others)
    (pairing_to (IsAmong p.nodes) (IsAmong p.records) memory other held others h places) (rw length-map whole.0)
    (rw length-map whole.1))

-- every access keeps in range the memory, what the outcome names, and what another thread holds
pub act_kept : (machine : Ellen) (op : Op) (place : EllenLoc) (other : Option EllenLoc) (memory : EllenMem)
    → IsInRange memory → IsPlaceInRange memory place → IfSome other (IsPlaceInRange memory)
    → IsInRange (act machine op place memory).0
    × IsOutcomeInRange (ellen_rules machine) (act machine op place memory).0 (act machine op place memory).1
    × IfSome other (IsPlaceInRange (act machine op place memory).0)
act_kept machine =
    kept_by_pairs (ellen_rules machine) IsWhole self_paired whole_in_range
    (λ p q place twin more. places_weaker (IsAmong p.nodes) (IsAmong q.nodes) (IsAmong p.records) (IsAmong q.records)
    more.nodes more.records place twin)
    (λ op p place twin memory other whole h at.
    let kept = act_keeps machine op p memory other h place twin at in (kept.paired, kept.whole whole))
