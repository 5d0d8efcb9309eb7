-- The row at a place is the part there, and nothing where there is none.
use Rattle.std.proofs.Common.{◌≡◌, ℕ, ◌∙◌, List, length, OnOk, ap, refl, subst, sym}
use Rattle.std.proofs.Common.{Option, Some, None, option_copied, Bor}
use Rattle.std.specs.Slice.{IsItemAt}
use Rattle.std.specs.Prelude.{slice_get, unwrap_or}
use Rattle.std.proofs.lemmas.Option.{slice_get_past, slice_get_read}
use Rattle.tree_machine.specs.Coding.{IsVisited}
use Rattle.tree_machine.specs.Parts.{no_part}
use Rattle.machine_tests.proofs.machine.parts.TablesParts.visit_record.Goals as goal

-- what a look-up found
looked_up : {A : Type 0} → (xs : List A) (i : ℕ) (found : Option (Bor A)) → IsItemAt xs i found
    → option_copied found ≡ slice_get xs i
looked_up xs i None is = sym (slice_get_past xs i is.3)
looked_up xs i (Some x) is = sym (slice_get_read xs (length xs) i x.now refl is.3.0 is.1)

pub returns-in-Some : goal.returns-in-Some
returns-in-Some c =
    subst (λ p. OnOk c.show.result (IsVisited p c.args.coder.now c.args.out.now c.show.new.coder c.show.new.out))
    (ap (λ r. unwrap_or r no_part) (sym (ap option_copied c.in-Some.is)
    ∙ looked_up c.args.self.now.records.now c.args.index c.get.result c.get.ensures.lookup)) c.show.ensures

pub returns-in-None : goal.returns-in-None
returns-in-None c =
    subst (λ p. OnOk c.visit.result (IsVisited p c.args.coder.now c.args.out.now c.visit.new.self c.visit.new.out))
    (ap (λ r. unwrap_or r no_part) (sym (ap option_copied c.in-None.is)
    ∙ looked_up c.args.self.now.records.now c.args.index c.get.result c.get.ensures.lookup)) c.visit.ensures
