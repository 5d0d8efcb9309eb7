-- Equal parts are of equal memories and places. So codes tell what they are of, and forms are exact.
use Rattle.std.specs.Prelude.{◌≡◌, List, Option, Some, None, refl}
use Rattle.std.proofs.Common.{ap, arith, sym}
use Rattle.std.proofs.lemmas.List.{length-map}
use Rattle.std.proofs.lemmas.List.Elements.{same_from_all_zip}
use Rattle.tree_machine.specs.FormCode.{TellsWholly, cut_code}
use Rattle.tree_machine.specs.Flat.{all_front}
use Rattle.tree_machine.specs.Pairing.{AreHeldPaired}
use Rattle.tree_machine.specs.Laws.PartForms.{parts_tell_wholly, part_forms_exact, parts_decode}
use Rattle.tree_machine.specs.Rules.{AreFormsExact, DecodesForms}
use Rattle.tree_machine.proofs.ValueParts.{Same, values_equal}
use Rattle.ellen.specs.Types.{Front, Ellen, UpdateWord, Node, Leaf, Internal, Record, Ins, Del, EllenMem, Above, Resume}
use Rattle.ellen.specs.Types.{SearchLoc, Update, Child, IFlag, InsOnly, DFlag, HelpLoc, InsChild, EllenLoc, Search}
use Rattle.ellen.specs.Types.{Help}
use Rattle.ellen.specs.declared.memory.UpdateWord.TheVariants as word
use Rattle.ellen.specs.Pairs.{AreBoth, AreWordsPaired, AreNodesPaired, AreRecordsPaired, AreAbovesPaired}
use Rattle.ellen.specs.Pairs.{AreSearchesPaired, AreHelpsPaired, AreResumesPaired, ArePlacesPaired}
use Rattle.ellen.specs.Parts.{node_part, record_part, held_part, ellen_parts, ellen_code, ellen_form, ellen_front_code}
use Rattle.ellen.specs.Parts.{ellen_behind_code}
use Rattle.ellen.specs.EllenRules.{ellen_rules}
use Rattle.ellen.specs.Laws.Parts.{node_parts, record_parts, held_parts, parts_alike, parts_in_range, values_in_range}

-- what equality pairs is equal

words_equal : (u v : UpdateWord) → AreWordsPaired Same u v → u ≡ v
words_equal word.Untouched word.Untouched h = refl
words_equal u v h = search arith

nodes_equal : (a b : Node) → AreNodesPaired Same Same a b → a ≡ b
nodes_equal (Leaf k) (Leaf j) h = ap Leaf h
nodes_equal (Internal k u l r) (Internal j v m s) h = λ i. Internal (h.0 i) (words_equal u v h.1 i) (h.2 i) (h.3 i)
nodes_equal _ _ h = absurd h

records_equal : (a b : Record) → AreRecordsPaired Same Same a b → a ≡ b
records_equal (Ins a) (Ins b) h = λ i. Ins (record { parent = h.0 i; leaf = h.1 i; new = h.2 i })
records_equal (Del a) (Del b) h =
    let update = words_equal a.parent_update b.parent_update h.3 in
    λ i. Del (record { grandparent = h.0 i; parent = h.1 i; leaf = h.2 i; parent_update = update i })
records_equal _ _ h = absurd h

above_equal : (a b : Above) → AreAbovesPaired Same Same a b → a ≡ b
above_equal a b h = λ i. record { node = h.0 i; update = words_equal a.update b.update h.1 i }

aboves_equal : (a b : Option Above) → AreBoth (AreAbovesPaired Same Same) a b → a ≡ b
aboves_equal None None h = refl
aboves_equal (Some a) (Some b) h = ap Some (above_equal a b h)
aboves_equal _ _ h = absurd h

searches_equal : (a b : SearchLoc) → AreSearchesPaired Same Same a b → a ≡ b
searches_equal (Update a p) (Update b q) h = λ i. Update (aboves_equal a b h.0 i) (h.1 i)
searches_equal (Child a p u) (Child b q v) h = λ i. Child (aboves_equal a b h.0 i) (h.1 i) (words_equal u v h.2 i)
searches_equal (IFlag p u l) (IFlag q v m) h = λ i. IFlag (h.0 i) (words_equal u v h.1 i) (h.2 i)
searches_equal (InsOnly p l) (InsOnly q m) h = λ i. InsOnly (h.0 i) (h.1 i)
searches_equal (DFlag a p u l) (DFlag b q v m) h =
    λ i. DFlag (above_equal a b h.0 i) (h.1 i) (words_equal u v h.2 i) (h.3 i)
searches_equal _ _ h = absurd h

helps_equal : (a b : HelpLoc) → AreHelpsPaired Same Same a b → a ≡ b
helps_equal (InsChild r) (InsChild s) h = ap InsChild h
helps_equal a b h = search arith

resumes_equal : (y z : Resume) → AreResumesPaired Same Same y z → y ≡ z
resumes_equal y z h =
    let stack : y.stack ≡ z.stack = sym (same_from_all_zip Same y.stack z.stack h.0 (λ r s e. sym e)) in
    λ i. record { stack = stack i; base = h.1 i }

places_equal : (a b : EllenLoc) → ArePlacesPaired Same Same a b → a ≡ b
places_equal (Search a) (Search b) h = ap Search (searches_equal a b h)
places_equal (Help a y) (Help b z) h = λ i. Help (helps_equal a b h.0 i) (resumes_equal y z h.1 i)
places_equal _ _ h = absurd h

held_equal : (a b : Option EllenLoc) → AreHeldPaired (ArePlacesPaired Same Same) a b → a ≡ b
held_equal None None h = refl
held_equal (Some a) (Some b) h = ap Some (places_equal a b h)
held_equal _ _ h = absurd h

-- equal parts are of equal memories and places
parts_tell : (memory other : EllenMem) (held others : List (Option EllenLoc))
    → ellen_parts memory held ≡ ellen_parts other others → (memory ≡ other) × (held ≡ others)
parts_tell memory other held others e =
    let nodes : memory.nodes ≡ other.nodes =
    values_equal node_part (λ a b h. nodes_equal a b ((node_parts Same Same a b).1 h)) memory.nodes other.nodes
    (λ i. (e i).nodes) in
    let records : memory.records ≡ other.records =
    values_equal record_part (λ a b h. records_equal a b ((record_parts Same Same a b).1 h)) memory.records
    other.records (λ i. (e i).records) in (
      (λ i. record { nodes = nodes i; records = records i }),
      values_equal held_part (λ a b h. held_equal a b ((held_parts Same Same a b).1 h)) held others (λ i. (e i).held),
    )

-- equal bytes are of equal memories and places
pub ellen_tells : (front other_front : Front) → TellsWholly (cut_code ellen_front_code ellen_behind_code front)
    (cut_code ellen_front_code ellen_behind_code other_front)
ellen_tells = parts_tell_wholly ellen_parts (λ memory held. length-map held held_part) parts_tell

-- by own numbers all nodes and records come in front
pub ellen_cut : (memory : EllenMem) (held : List (Option EllenLoc)) → (front : Front)
    × (ellen_code memory held ≡ cut_code ellen_front_code ellen_behind_code front memory held)
ellen_cut memory held = (all_front (ellen_parts memory held), refl)

-- two forms are equal exactly if memories and places are alike
pub ellen_forms : (machine : Ellen) → AreFormsExact (ellen_rules machine) ellen_form
ellen_forms machine =
    part_forms_exact ellen_parts (λ memory held. length-map held held_part) (ellen_rules machine) 1 parts_in_range
    parts_alike

-- what the bytes of a form decode to is alike
pub ellen_decodes : (machine : Ellen) (front : Front) → DecodesForms (ellen_rules machine) ellen_form (λ form. form)
    (cut_code ellen_front_code ellen_behind_code front)
ellen_decodes machine =
    parts_decode ellen_parts (λ memory held. length-map held held_part) (ellen_rules machine) 1 parts_in_range
    parts_alike values_in_range
