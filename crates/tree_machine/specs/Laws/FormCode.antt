-- The content of the form of a state can be read off its bytes, so that two forms are equal where their bytes are.
use Rattle.std.specs.Prelude.{◌≡◌, ℕ, Bool, List, [], ◌∷◌, ◌++◌, length, Option, nat_eq}
use Rattle.std.specs.Cmp.{IsEquivalence}
use Rattle.std.specs.Cmp.Lexicographic.{pointwise}
use Rattle.std.proofs.Common.{◌+◌, refl, arith, append_assoc}
use Rattle.std.proofs.lemmas.Cmp.{lists_equiv}
use Rattle.sched_program.specs.Exact.{IsExact}
use Rattle.sched_program.specs.Laws.Exact.{nat_exact, list_exact}
use Rattle.tree_machine.specs.Laws.CellOrder.{nat_equivalence}
use Rattle.tree_machine.specs.Alike.{FormContent, notes_of, places_of, replies_of}
use Rattle.tree_machine.specs.Laws.StateExact.{same_answer}
use Rattle.tree_machine.specs.FormCode.{list_code, replies_code, note_code, astray_code, content_code, IsInjective}
use Rattle.tree_machine.specs.FormCode.{state_code}
use Rattle.tree_machine.specs.Flat.{number_code}
use Rattle.tree_machine.specs.Laws.Flat.{number_split, IsReadable, each_readable}
use Rattle.tree_machine.specs.Laws.Packed.{digits_of_number}
use Rattle.tree_machine.specs.Laws.ShortNotes.{counts_of_number, number_below}
use Rattle.tree_machine.specs.declared.state.State.{State}
use Rattle.tree_machine.specs.Packed.{replies_number}

-- what the bytes of a state are of, behind its steps
abbrev pub state_content : {Machine Memory Place Form : Type 0} → (Memory → List (Option Place) → List ℕ)
    → State Machine Memory Place Form → FormContent (List ℕ)
state_content code s = record {
  form = code s.memory (places_of s.threads);
  replies = replies_of s.threads;
  notes = notes_of s.threads;
  astray = s.astray;
}

list_readable : {A : Type 0} (code : A → List ℕ) → IsReadable code → IsReadable (list_code code)
list_readable code readable cs ds xs ys e = each_readable code readable cs ds xs ys (cc) (cc)

replies_readable : IsReadable replies_code
unfolding replies_code
replies_readable a b xs ys e =
    let most = length a + length b in
    let parts = number_split (replies_number a) (replies_number b) xs ys e in
    grind (arith, digits_of_number most a, digits_of_number most b)

-- equal lists that are cut at one place have equal pieces
pub halves : {A : Type 0} (xs us ys vs : List A) → length xs ≡ length us → xs ++ ys ≡ us ++ vs → (xs ≡ us) × (ys ≡ vs)
halves [] [] ys vs l e = (refl, e)
halves (x ∷ xs) (u ∷ us) ys vs l e = let rest = halves xs us ys vs (omega arith) (cc) in (cc (e, rest.0), rest.1)
halves _ _ ys vs l e = absurd (omega arith)

-- a short note and one that is not begin with different bytes
note_readable : IsReadable note_code
unfolding note_code
note_readable cs ds xs ys e =
    grind (arith, counts_of_number cs, counts_of_number ds, number_below cs, number_below ds, halves cs ds xs ys)

astray_readable : IsReadable astray_code
astray_readable a b xs ys e = grind arith

module _ {Form : Type 0} (code : Form → List ℕ) (readable : IsInjective code) where
  pub content_readable : IsInjective (content_code code)
  content_readable a b e =
      grind (arith, list_readable, replies_readable, append_assoc, note_readable, astray_readable)

  -- comparing bytes returns what comparing the forms returns
  pub content_same : (E : FormContent Form → FormContent Form → Bool) → IsExact E → IsEquivalence E
      → (a b : FormContent Form) → pointwise nat_eq (content_code code a) (content_code code b) ≡ E a b
  content_same E exact equivalence a b =
      grind (arith, same_answer, content_readable, list_exact, nat_exact, lists_equiv, nat_equivalence)

-- equal bytes are of equal steps and contents
pub state_pieces : {Machine Memory Place Form : Type 0} (code : Memory → List (Option Place) → List ℕ)
    (s : State Machine Memory Place Form) (steps : ℕ) (content : FormContent (List ℕ))
    → state_code code s ≡ number_code steps ++ content_code (λ l. l) content
    → (s.steps ≡ steps) × (state_content code s ≡ content)
state_pieces code s steps content e =
    let same = number_split s.steps steps (content_code (λ l. l) (state_content code s)) _ e in
    (same.0, content_readable (λ l. l) (λ a b h. h) (state_content code s) content same.1)
