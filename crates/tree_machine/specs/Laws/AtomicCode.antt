-- The bytes of the machine that does each operation at once determine what they are of.
use Rattle.std.specs.Prelude.{◌≡◌, ℕ, List, [], ◌∷◌, ◌++◌, Option, Some, None}
use Rattle.std.specs.List.{flat_map}
use Rattle.std.proofs.Common.{arith}
use Rattle.tree_machine.specs.FormCode.{IsInjective, TellsWholly}
use Rattle.tree_machine.specs.Atomic.{atomic_form, atomic_rules}
use Rattle.tree_machine.specs.Rules.{DecodesForms}
use Rattle.tree_machine.specs.Laws.Atomic.{atomic_forms}
use Rattle.tree_machine.specs.AtomicCode.{held_code, atomic_code}
use Rattle.tree_machine.specs.declared.atomic.AtomicLoc.{AtomicLoc}
use Rattle.tree_machine.specs.declared.atomic.AtomicLoc.TheVariants.{Do}

held_readable : (places others : List (Option AtomicLoc)) (keys twins : List ℕ)
    → flat_map held_code places ++ 0 ∷ keys ≡ flat_map held_code others ++ 0 ∷ twins
    → (places ≡ others) × (keys ≡ twins)
held_readable [] [] keys twins e = grind arith
held_readable [] (None ∷ others) keys twins e = grind arith
held_readable (None ∷ places) (None ∷ others) keys twins e = grind (arith, held_readable places others keys twins)
held_readable (Some Do ∷ places) (Some Do ∷ others) keys twins e =
    grind (arith, held_readable places others keys twins)
held_readable _ _ keys twins e = grind arith

pub atomic_codes : IsInjective atomic_code
atomic_codes a b e = grind (arith, held_readable a.places b.places a.keys b.keys e)

-- there are no numbers to leave out: the bytes of the form determine the keys and what the threads hold
pub atomic_tells : TellsWholly (λ keys held. atomic_code (atomic_form keys held))
    (λ keys held. atomic_code (atomic_form keys held))
atomic_tells keys others held twins many e = let same = held_readable held twins keys others e in (same.1, same.0)

-- a form's bytes are those of the keys and of what the threads hold
pub atomic_decodes : {Machine : Type 0} (machine : Machine)
    → DecodesForms atomic_rules atomic_form atomic_code (λ keys held. atomic_code (atomic_form keys held))
atomic_decodes machine keys others held twins range places many e =
    grind (arith, atomic_tells others keys twins held, atomic_forms keys others held twins)
