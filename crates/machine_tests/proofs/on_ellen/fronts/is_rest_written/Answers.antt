use Rattle.std.proofs.Common.{◌≡◌, ◌<◌, List, [], ◌∷◌, map, rules, refl, length, sym, ◌∙◌, ap, subst, arith}
use Rattle.std.proofs.lemmas.List.{length-map}
use Rattle.tree_machine.specs.Flat.{all_front}
use Rattle.tree_machine.specs.FormCode.{cut_code}
use Rattle.tree_machine.specs.declared.front.Front.{Front}
use Rattle.ellen.specs.Parts.{ellen_behind_code, ellen_front_code, ellen_parts, node_part, record_part}
use Rattle.std.specs.Prelude.{Option, Some, None, IfSome, All}
use Rattle.std.proofs.lemmas.List.Elements.{All-nil, All-cons}
use Rattle.ellen.specs.declared.memory.EllenMem.{EllenMem}
use Rattle.ellen.specs.declared.place.SearchLoc.TheVariants.{Update}
use Rattle.ellen.specs.declared.place.EllenLoc.{EllenLoc}
use Rattle.ellen.specs.declared.place.EllenLoc.TheVariants.{Search}
use Rattle.ellen.specs.Range.{IsPlaceInRange}
use Rattle.machine_tests.proofs.on_ellen.fronts.is_rest_written.Goals as goal

begun_in_range : (memory : EllenMem) (place : Option EllenLoc) → length memory.nodes ≡ 3
    → place ≡ Some (Search (Update None 0)) → All (λ place. IfSome place (IsPlaceInRange memory)) (place ∷ [])
begun_in_range memory place nodes e =
    let root : 0 < length memory.nodes = omega arith in
    let here : IsPlaceInRange memory (Search (Update None 0)) = search (rules, root) in
    All-cons (λ place. IfSome place (IsPlaceInRange memory)) place []
    (subst (λ p. IfSome p (IsPlaceInRange memory)) (sym e) here)
    (All-nil (λ place. IfSome place (IsPlaceInRange memory)))

pub write_behind-requires-clause-places_in_range : goal.write_behind-requires-clause-places_in_range
write_behind-requires-clause-places_in_range c =
    begun_in_range c.in_ok-memory.memory c.holding.result.place c.in_ok-memory.ensures.nodes c.holding.ensures

-- the front of all nodes and records
front_is : (memory : EllenMem) (front : Front) (held : List (Option EllenLoc)) → length memory.nodes ≡ 3
    → length memory.records ≡ 1 → front.nodes ≡ 3 → front.records ≡ 1 → front ≡ all_front (ellen_parts memory held)
front_is memory front held nodes records front_nodes front_records =
    let a : front.nodes ≡ length (map node_part memory.nodes) =
    front_nodes ∙ sym nodes ∙ sym (length-map memory.nodes node_part) in
    let b : front.records ≡ length (map record_part memory.records) =
    front_records ∙ sym records ∙ sym (length-map memory.records record_part) in
    λ i. record { nodes = a i; records = b i }

pub write_behind-requires-clause-read : goal.write_behind-requires-clause-read
write_behind-requires-clause-read c =
    let memory = c.in_ok-memory.memory in
    let held = c.holding.result.place ∷ [] in
    record {
      other = memory;
      held = held;
      twins = held;
      in_range = c.in_ok-memory.ensures.in_range;
      places_in_range = begun_in_range memory c.holding.result.place c.in_ok-memory.ensures.nodes c.holding.ensures;
      many = refl;
      same = ap (λ front. cut_code ellen_front_code ellen_behind_code front memory held)
          (front_is memory c.front_of-front.result held c.in_ok-memory.ensures.nodes c.in_ok-memory.ensures.records
          c.front_of-front.ensures.nodes c.front_of-front.ensures.records);
    }
