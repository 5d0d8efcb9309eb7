-- A machine whose memory and places are in parts: its forms are exact, and its codes tell and decode what they are of.
use Rattle.std.specs.Prelude.{◌≡◌, ◌↔◌, ℕ, List, length, Option}
use Rattle.std.proofs.Common.{arith, sym, ◌∙◌}
use Rattle.tree_machine.specs.Canonical.{canonical_code}
use Rattle.tree_machine.specs.Flat.{parts_code}
use Rattle.tree_machine.specs.FormCode.{TellsWholly}
use Rattle.tree_machine.specs.Pairing.{AreAlike}
use Rattle.tree_machine.specs.Parts.{Parts, ArePartsInRange, CanPartsBePaired}
use Rattle.tree_machine.specs.Rules.{AreFormsExact, ArePlacesInRange, DecodesForms, Rules}
use Rattle.tree_machine.specs.Laws.CanonicalCodes.{canonical_codes_exactly, decoded_in_range, decoded_paired}
use Rattle.tree_machine.specs.Laws.Codes.{parts_code_tells}
use Rattle.tree_machine.specs.declared.front.Front.{Front}

module _ {Memory Place : Type 0} (parts : Memory → List (Option Place) → Parts)
    (count : (memory : Memory) (held : List (Option Place)) → length (parts memory held).held ≡ length held) where
  same_count : (memory other : Memory) (held others : List (Option Place)) → length held ≡ length others
      → length (parts memory held).held ≡ length (parts other others).held
  same_count memory other held others many = count memory held ∙ (many ∙ sym (count other others))

  -- equal bytes are of equal memories and places, where equal parts are
  pub parts_tell_wholly : ((memory other : Memory) (held others : List (Option Place))
      → parts memory held ≡ parts other others → (memory ≡ other) × (held ≡ others))
      → (front other_front : Front)
      → TellsWholly (λ memory held. parts_code front (parts memory held))
      (λ memory held. parts_code other_front (parts memory held))
  parts_tell_wholly tell front other_front memory other held others many e =
      grind (arith, parts_code_tells, same_count)

  -- memories and places are in range exactly where their parts are, and alike exactly where their parts can be paired
  module _ (rules : Rules Memory Place) (fixed : ℕ)
      (in_range : (memory : Memory) (held : List (Option Place)) → rules.IsInRange memory
      → ArePlacesInRange rules memory held → ArePartsInRange fixed (parts memory held))
      (exactly : (memory other : Memory) (held others : List (Option Place))
      → CanPartsBePaired fixed (parts memory held) (parts other others)
      ↔ AreAlike rules.pairs memory held other others) where
    pub part_forms_exact : AreFormsExact rules (λ memory held. canonical_code fixed (parts memory held))
    part_forms_exact memory other held others h places k other_places many =
        let codes =
        canonical_codes_exactly fixed _ _ (in_range memory held h places) (in_range other others k other_places)
        (same_count memory other held others many) in
        grind (arith, codes, exactly memory other held others)

    pub parts_decode : ((memory : Memory) (held : List (Option Place)) → ArePartsInRange fixed (parts memory held)
        → rules.IsInRange memory × ArePlacesInRange rules memory held) → (front : Front)
        → DecodesForms rules (λ memory held. canonical_code fixed (parts memory held)) (λ form. form)
        (λ memory held. parts_code front (parts memory held))
    parts_decode back front memory other held others h places many e =
        let here = in_range memory held h places in
        let long = same_count memory other held others many in
        let there = back other others (decoded_in_range fixed (parts memory held) _ front here long e) in
        let paired = decoded_paired fixed (parts memory held) _ front here long e in
        grind (arith, there, exactly memory other held others)
