-- Equal parts are of equal memories and places. So codes tell what they are of, and forms are exact.
use Rattle.std.specs.Prelude.{◌≡◌, List, Option, Some, None, refl}
use Rattle.std.proofs.Common.{ap, arith}
use Rattle.std.proofs.lemmas.List.{length-map}
use Rattle.tree_machine.specs.Pairing.{AreHeldPaired}
use Rattle.tree_machine.specs.FormCode.{TellsWholly, cut_code}
use Rattle.tree_machine.specs.Flat.{all_front}
use Rattle.tree_machine.specs.Laws.PartForms.{parts_tell_wholly, part_forms_exact, parts_decode}
use Rattle.tree_machine.specs.Rules.{AreFormsExact, DecodesForms}
use Rattle.tree_machine.proofs.ValueParts.{Same, values_equal}
use Rattle.natmit.specs.Types.{Front, NatMit, Word, Node, Leaf, Internal, NatMitMem, Mode, Plain, Path}
use Rattle.natmit.specs.Types.{NatMitLoc, Begin, Down, Put, Flag, Look, CleanRead, Tag, Sibling, Swing}
use Rattle.natmit.specs.Pairs.{AreWordsPaired, AreNodesPaired, AreModesPaired, ArePathsPaired, ArePlacesPaired}
use Rattle.natmit.specs.Parts.{node_part, held_part, natmit_parts, natmit_code, natmit_form, natmit_front_code}
use Rattle.natmit.specs.Parts.{natmit_behind_code}
use Rattle.natmit.specs.NatMitRules.{natmit_rules}
use Rattle.natmit.specs.Laws.Parts.{node_parts, held_parts, parts_exactly, parts_in_range, values_in_range}

-- ---- what equality pairs is equal

words_equal : (v w : Word) → AreWordsPaired Same v w → v ≡ w
words_equal v w h = λ i. record { flag = h.0 i; tag = h.1 i; node = h.2 i }

nodes_equal : (a b : Node) → AreNodesPaired Same a b → a ≡ b
nodes_equal (Leaf k) (Leaf j) h = ap Leaf h
nodes_equal (Internal k l r) (Internal j m s) h =
    let left = words_equal l m h.1 in
    let right = words_equal r s h.2 in
    λ i. Internal (h.0 i) (left i) (right i)
nodes_equal _ _ h = absurd h

modes_equal : (m o : Mode) → AreModesPaired Same m o → m ≡ o
modes_equal Plain Plain h = refl
modes_equal m o h = search arith

paths_equal : (p q : Path) → ArePathsPaired Same p q → p ≡ q
paths_equal p q h = λ i. record { ancestor = h.0 i; successor = h.1 i; parent = h.2 i }

places_equal : (place twin : NatMitLoc) → ArePlacesPaired Same place twin → place ≡ twin
places_equal (Begin m) (Begin o) h = ap Begin (modes_equal m o h)
places_equal (Down p l t m) (Down q k v o) h =
    λ i. Down (paths_equal p q h.0 i) (h.1 i) (h.2 i) (modes_equal m o h.3 i)
places_equal (Put p l) (Put q k) h = λ i. Put (paths_equal p q h.0 i) (h.1 i)
places_equal (Flag p l) (Flag q k) h = λ i. Flag (paths_equal p q h.0 i) (h.1 i)
places_equal (Look p l) (Look q k) h = λ i. Look (paths_equal p q h.0 i) (h.1 i)
places_equal (CleanRead p m) (CleanRead q o) h = λ i. CleanRead (paths_equal p q h.0 i) (modes_equal m o h.1 i)
places_equal (Tag p d m) (Tag q e o) h = λ i. Tag (paths_equal p q h.0 i) (h.1 i) (modes_equal m o h.2 i)
places_equal (Sibling p d m) (Sibling q e o) h = λ i. Sibling (paths_equal p q h.0 i) (h.1 i) (modes_equal m o h.2 i)
places_equal (Swing a s f x m) (Swing b u g y o) h =
    λ i. Swing (h.0 i) (h.1 i) (h.2 i) (h.3 i) (modes_equal m o h.4 i)
places_equal _ _ h = absurd h

held_equal : (place twin : Option NatMitLoc) → AreHeldPaired (ArePlacesPaired Same) place twin → place ≡ twin
held_equal None None h = refl
held_equal (Some place) (Some twin) h = ap Some (places_equal place twin h)
held_equal _ _ h = absurd h

-- parts determine the memory and the places that they are of
parts_tell : (memory other : NatMitMem) (held others : List (Option NatMitLoc))
    → natmit_parts memory held ≡ natmit_parts other others → (memory ≡ other) × (held ≡ others)
parts_tell memory other held others e =
    let nodes : memory.nodes ≡ other.nodes =
    values_equal node_part (λ a b h. nodes_equal a b ((node_parts Same Same a b).1 h)) memory.nodes other.nodes
    (λ i. (e i).nodes) in (
      (λ i. record { nodes = nodes i }),
      values_equal held_part (λ a b h. held_equal a b ((held_parts Same Same a b).1 h)) held others (λ i. (e i).held),
    )

-- and so do their bytes
pub natmit_tells : (front other_front : Front) → TellsWholly (cut_code natmit_front_code natmit_behind_code front)
    (cut_code natmit_front_code natmit_behind_code other_front)
natmit_tells = parts_tell_wholly natmit_parts (λ memory held. length-map held held_part) parts_tell

-- by own numbers all nodes come in front
pub natmit_cut : (memory : NatMitMem) (held : List (Option NatMitLoc)) → (front : Front)
    × (natmit_code memory held ≡ cut_code natmit_front_code natmit_behind_code front memory held)
natmit_cut memory held = (all_front (natmit_parts memory held), refl)

-- two forms are equal exactly if memories and places are alike
pub natmit_forms : (machine : NatMit) → AreFormsExact (natmit_rules machine) natmit_form
natmit_forms machine =
    part_forms_exact natmit_parts (λ memory held. length-map held held_part) (natmit_rules machine) 2 parts_in_range
    parts_exactly

-- what the bytes of a form decode to is alike
pub natmit_decodes : (machine : NatMit) (front : Front) → DecodesForms (natmit_rules machine) natmit_form (λ form. form)
    (cut_code natmit_front_code natmit_behind_code front)
natmit_decodes machine =
    parts_decode natmit_parts (λ memory held. length-map held held_part) (natmit_rules machine) 2 parts_in_range
    parts_exactly values_in_range
