-- A machine each of whose operations goes astray at its second step, for the tests. A place says whether the first is
-- done.
use Rattle.std.specs.Prelude.{◌≡◌, ◌↔◌, ℕ, Bool, true, false, refl, List, [], ◌∷◌, map, Option, Some, None}
use Rattle.std.proofs.Common.{◌∙◌, ap, arith, sym, subst}
use Rattle.std.proofs.lemmas.Option.{same_Some}
use Rattle.sched_program.specs.declared.operation.Op.{Op}
use Rattle.tree_machine.specs.Rules.{Rules, ArePlacesInRange, AreLawful, DecodesForms, IsOutcomeInRange}
use Rattle.tree_machine.specs.FormCode.{TellsWholly}
use Rattle.tree_machine.specs.Pairing.{AreAlike}
use Rattle.tree_machine.specs.Unnumbered.{equal_pairs}
use Rattle.tree_machine.specs.Laws.Unnumbered.{equal_pairs_lawful, equal_alike}
use Rattle.tree_machine.specs.declared.machine.Outcome.{Outcome}
use Rattle.tree_machine.specs.declared.machine.Outcome.TheVariants.{Goes, Replies, Astray}

abbrev pub straying_act : Op → Bool → Bool → Bool × Outcome Bool
straying_act op false memory = (memory, Goes true)
straying_act op true memory = (memory, Astray)

abbrev pub straying_rules : Rules Bool Bool
straying_rules =
    record {
      initial = λ _. false;
      first = λ _. false;
      act = straying_act;
      IsOrdered = λ memory. memory ≡ false;
      IsInRange = λ _. Unit {0};
      IsPlaceInRange = λ _ _. Unit {0};
      pairs = equal_pairs;
    }

in_range : (memory : Bool) (outcome : Outcome Bool) → IsOutcomeInRange straying_rules memory outcome
in_range memory (Goes place) = tt
in_range memory (Replies reply) = tt
in_range memory Astray = tt

unchanged : (op : Op) (place memory : Bool) → (straying_act op place memory).1 ≡ Astray
    → (straying_act op place memory).0 ≡ memory
unchanged op false memory h = refl
unchanged op true memory h = refl

pub straying_lawful : AreLawful straying_rules
straying_lawful = record {
  initial_in_range = λ _ _. tt;
  initial_ordered = λ _ _. refl;
  first_in_range = λ _ _ _. tt;
  act_in_range = λ _ _ _ _ _. tt;
  outcome_in_range = λ op place memory _ _. in_range (straying_act op place memory).0 (straying_act op place memory).1;
  others_in_range = λ _ _ _ _ _ _ _. tt;
  astray_unchanged = unchanged;
  pairs_lawful = equal_pairs_lawful straying_rules.first straying_rules.act straying_rules.IsOrdered;
}

-- what a thread holds as a number
abbrev pub held_code : Option Bool → ℕ
held_code None = 0
held_code (Some false) = 1
held_code (Some true) = 2

held_read : (place twin : Option Bool) → held_code place ≡ held_code twin → place ≡ twin
held_read None None e = refl
held_read None (Some false) e = absurd (omega (arith, e))
held_read None (Some true) e = absurd (omega (arith, e))
held_read (Some false) None e = absurd (omega (arith, e))
held_read (Some true) None e = absurd (omega (arith, e))
held_read (Some false) (Some false) e = refl
held_read (Some false) (Some true) e = absurd (omega (arith, e))
held_read (Some true) (Some false) e = absurd (omega (arith, e))
held_read (Some true) (Some true) e = refl

all_read : (held twins : List (Option Bool)) → map held_code held ≡ map held_code twins → held ≡ twins
all_read [] [] e = refl
all_read [] (twin ∷ twins) e = cc
all_read (place ∷ held) [] e = cc
all_read (place ∷ held) (twin ∷ twins) e =
    let first : held_code place ≡ held_code twin = cc in
    let rest : map held_code held ≡ map held_code twins = cc in
    ap (λ p. p ∷ held) (held_read place twin first) ∙ ap (λ l. twin ∷ l) (all_read held twins rest)

-- the memory, before what the threads hold
abbrev pub straying_form : Bool → List (Option Bool) → List ℕ
straying_form memory held = held_code (Some memory) ∷ map held_code held

-- equal forms are of equal memories with equal places held
form_read : (memory other : Bool) (held twins : List (Option Bool))
    → straying_form memory held ≡ straying_form other twins → (memory ≡ other) × (held ≡ twins)
form_read memory other held twins same =
    let first : held_code (Some memory) ≡ held_code (Some other) = cc in
    let rest : map held_code held ≡ map held_code twins = cc in
    (same_Some memory other (held_read (Some memory) (Some other) first), all_read held twins rest)

pub straying_tells : TellsWholly straying_form straying_form
straying_tells memory other held twins many same = form_read memory other held twins same

-- forms are equal exactly if the memories and the places are
pub straying_forms : (memory other : Bool) (held twins : List (Option Bool))
    → (straying_form memory held ≡ straying_form other twins) ↔ AreAlike straying_rules.pairs memory held other twins
straying_forms memory other held twins =
    let alike = equal_alike memory other held twins in (
      (λ same. alike.0 (form_read memory other held twins same)),
      (λ h. let same = alike.1 h in λ i. straying_form (same.0 i) (same.1 i)),
    )

-- so bytes that are equal are of forms that are
pub straying_decodes : DecodesForms straying_rules straying_form (λ bytes. bytes) straying_form
straying_decodes memory other held twins range places many e =
    let same = form_read other memory twins held e in (
      tt,
      subst (λ m. ArePlacesInRange straying_rules m twins) (sym same.0)
          (subst (ArePlacesInRange straying_rules memory) (sym same.1) places),
      (straying_forms memory other held twins).0 (sym e),
    )
