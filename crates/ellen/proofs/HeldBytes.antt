-- Help places in bytes.
use Rattle.std.proofs.Common.{◌≡◌, ℕ, suc, ◌+◌, ◌*◌, ◌<◌, true, List, [], ◌∷◌, ◌++◌, map, length, refl}
use Rattle.std.proofs.Common.{ap, arith, add-one}
use Rattle.std.specs.Prelude.{Some, All, nat_lt}
use Rattle.std.specs.List.{flat_map}
use Rattle.std.proofs.lemmas.Bool.Decides.{nat_tests}
use Rattle.std.proofs.lemmas.List.{length-map}
use Rattle.std.proofs.lemmas.List.Elements.{All-head, All-tail}
use Rattle.tree_machine.specs.Flat.{number_code, reference_number, short_head, cell_code}
use Rattle.tree_machine.specs.Flat.{part_content}
use Rattle.tree_machine.specs.Laws.SmallCodes.{small_code}
use Rattle.ellen.specs.Types.{Resume, HelpLoc, Help}
use Rattle.ellen.specs.Parts.{help_number, help_side, help_record, help_node, base_number, place_part}

-- ---- a stack

-- the records of a stack
stack_coded : (stack : List ℕ) → All (λ number. number < 254) stack
    → flat_map number_code (map reference_number (map Some stack)) ≡ map (λ number. number + 1) stack
stack_coded [] h = refl
stack_coded (number ∷ stack) h =
    let less : number < 254 = All-head (λ number. number < 254) number stack h in
    let rest = stack_coded stack (All-tail (λ number. number < 254) number stack h) in
    rw (small_code (suc number) (omega arith), rest, add-one)

head_is : (k : ℕ) → k < 6 → short_head 1 4 (suc (suc k)) ≡ Some (69 + 30 * k)
head_is k bounded =
    let short : nat_lt (suc (suc k)) 8 ≡ true = grind (arith, nat_tests) in
    let sum : 4 + 5 * 1 + 30 * suc (suc k) ≡ 69 + 30 * k = omega arith in
    rw short (ap Some sum)

-- a help place in bytes
pub help_coded : (at : HelpLoc) (resume : Resume) → All (λ number. number < 254) resume.stack
    → length resume.stack < 6
    → cell_code (part_content (place_part (Help at resume)))
    ≡ ((69 + 30 * length resume.stack) ∷ 5 ∷ (number_code (help_number at) ++ (number_code (help_side at)
    ++ (number_code (base_number resume.base) ++ []))))
    ++ (number_code (reference_number (help_node at))
    ++ (number_code (suc (help_record at)) ++ map (λ number. number + 1) resume.stack))
help_coded at resume below short =
    let kept = resume.stack in
    rw (length-map kept Some, head_is (length kept) short, stack_coded kept below)
