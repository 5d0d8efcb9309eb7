-- Canonical parts in bytes: equal bytes are of parts that can be paired, and so are parts that the bytes are of,
-- cut at any front.
use Rattle.std.proofs.Common.{◌≡◌, ℕ, ◌↔◌, length, sym, subst, arith}
use Rattle.std.proofs.lemmas.List.{length-map}
use Rattle.std.proofs.lemmas.List.Elements.{length_all_zip}
use Rattle.tree_machine.specs.Pairing.{IsAmong}
use Rattle.tree_machine.specs.Parts.{Parts, ArePartsInRange, CanPartsBePaired}
use Rattle.tree_machine.specs.Flat.{parts_code}
use Rattle.tree_machine.specs.Canonical.{canonical_code, canonical_front, canonical_parts}
use Rattle.tree_machine.specs.Laws.Canonical.{canonical_in_range, canonical_paired}
use Rattle.tree_machine.specs.Laws.CanonicalPairs.{canonical_exactly, fronts_paired}
use Rattle.tree_machine.specs.Laws.Codes.{parts_code_tells}
use Rattle.tree_machine.specs.declared.front.Front.{Front}

-- two canonical codes are equal exactly if the parts can be paired
pub canonical_codes_exactly : (fixed : ℕ) (s t : Parts) → ArePartsInRange fixed s → ArePartsInRange fixed t
    → length s.held ≡ length t.held → (canonical_code fixed s ≡ canonical_code fixed t) ↔ CanPartsBePaired fixed s t
canonical_codes_exactly fixed s t here there l =
    let exactly = canonical_exactly fixed s t here there in (
      λ e. exactly.0
          (parts_code_tells (canonical_front fixed s) (canonical_front fixed t) (canonical_parts fixed s)
          (canonical_parts fixed t) (simp length-map l) e).0,
      λ p.
          let front = fronts_paired (IsAmong p.0) (IsAmong p.1) fixed s t here there p.2 in
          grind (arith, length_all_zip (IsAmong p.0), length_all_zip (IsAmong p.1), exactly.1 p),
    )

module _ (fixed : ℕ) (s c : Parts) (front : Front) (range : ArePartsInRange fixed s) (l : length s.held ≡ length c.held)
    (e : parts_code front c ≡ canonical_code fixed s) where
  pub decoded_is : c ≡ canonical_parts fixed s
  decoded_is =
      (parts_code_tells front (canonical_front fixed s) c (canonical_parts fixed s) (simp length-map (sym l)) e).0

  -- parts whose code, cut at any front, is the canonical code of others can be paired with these
  pub decoded_paired : CanPartsBePaired fixed s c
  decoded_paired = subst (CanPartsBePaired fixed s) (sym decoded_is) (canonical_paired fixed s range)

  -- and are in range
  pub decoded_in_range : ArePartsInRange fixed c
  decoded_in_range = subst (ArePartsInRange fixed) (sym decoded_is) (canonical_in_range fixed s range)
