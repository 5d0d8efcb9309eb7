-- A machine with a fault for each kind of operation, for the tests: an insert replies true, a delete goes astray at its
-- second step, and a find leaves the memory out of order. A place says whether the operation's first step is done, the
-- memory whether it is out of order.
use Rattle.std.specs.Prelude.{◌≡◌, ◌↔◌, ℕ, Bool, true, false, refl, List, [], ◌∷◌, map, Option, Some, None}
use Rattle.std.proofs.Common.{◌∙◌, ap, arith, sym, subst}
use Rattle.std.proofs.lemmas.Option.{same_Some}
use Rattle.sched_program.specs.declared.operation.Op.{Op}
use Rattle.sched_program.specs.declared.operation.Op.TheVariants.{Insert, Delete, Find}
use Rattle.tree_machine.specs.Rules.{Rules, ArePlacesInRange, AreLawful, DecodesForms, IsOutcomeInRange}
use Rattle.tree_machine.specs.FormCode.{TellsWholly}
use Rattle.tree_machine.specs.Pairing.{AreAlike}
use Rattle.tree_machine.specs.Unnumbered.{equal_pairs}
use Rattle.tree_machine.specs.Laws.Unnumbered.{equal_pairs_lawful, equal_alike}
use Rattle.tree_machine.specs.declared.machine.Outcome.{Outcome}
use Rattle.tree_machine.specs.declared.machine.Outcome.TheVariants.{Goes, Replies, Astray}

abbrev pub faulty_act : Op → Bool → Bool → Bool × Outcome Bool
faulty_act (Insert key) is_second memory = (memory, Replies true)
faulty_act (Delete key) false memory = (memory, Goes true)
faulty_act (Delete key) true memory = (memory, Astray)
faulty_act (Find key) is_second memory = (true, Replies false)

abbrev pub faulty_rules : Rules Bool Bool
faulty_rules =
    record {
      initial = λ _. false;
      first = λ _. false;
      act = faulty_act;
      IsOrdered = λ memory. memory ≡ false;
      IsInRange = λ _. Unit {0};
      IsPlaceInRange = λ _ _. Unit {0};
      pairs = equal_pairs;
    }

in_range : (memory : Bool) (outcome : Outcome Bool) → IsOutcomeInRange faulty_rules memory outcome
in_range memory (Goes place) = tt
in_range memory (Replies reply) = tt
in_range memory Astray = tt

unchanged : (op : Op) (place memory : Bool) → (faulty_act op place memory).1 ≡ Astray
    → (faulty_act op place memory).0 ≡ memory
unchanged (Insert key) place memory h = refl
unchanged (Delete key) false memory h = refl
unchanged (Delete key) true memory h = refl
unchanged (Find key) place memory h = cc

pub faulty_lawful : AreLawful faulty_rules
faulty_lawful = record {
  initial_in_range = λ _ _. tt;
  initial_ordered = λ _ _. refl;
  first_in_range = λ _ _ _. tt;
  act_in_range = λ _ _ _ _ _. tt;
  outcome_in_range = λ op place memory _ _. in_range (faulty_act op place memory).0 (faulty_act op place memory).1;
  others_in_range = λ _ _ _ _ _ _ _. tt;
  astray_unchanged = unchanged;
  pairs_lawful = equal_pairs_lawful faulty_rules.first faulty_rules.act faulty_rules.IsOrdered;
}

-- what a thread holds as a number
abbrev pub held_code : Option Bool → ℕ
held_code None = 0
held_code (Some false) = 1
held_code (Some true) = 2

held_read : (place twin : Option Bool) → held_code place ≡ held_code twin → place ≡ twin
held_read None None e = refl
held_read None (Some false) e = absurd (omega (arith, e))
held_read None (Some true) e = absurd (omega (arith, e))
held_read (Some false) None e = absurd (omega (arith, e))
held_read (Some true) None e = absurd (omega (arith, e))
held_read (Some false) (Some false) e = refl
held_read (Some false) (Some true) e = absurd (omega (arith, e))
held_read (Some true) (Some false) e = absurd (omega (arith, e))
held_read (Some true) (Some true) e = refl

all_read : (held twins : List (Option Bool)) → map held_code held ≡ map held_code twins → held ≡ twins
all_read [] [] e = refl
all_read [] (twin ∷ twins) e = cc
all_read (place ∷ held) [] e = cc
all_read (place ∷ held) (twin ∷ twins) e =
    let first : held_code place ≡ held_code twin = cc in
    let rest : map held_code held ≡ map held_code twins = cc in
    ap (λ p. p ∷ held) (held_read place twin first) ∙ ap (λ l. twin ∷ l) (all_read held twins rest)

-- the memory, before what the threads hold
abbrev pub faulty_form : Bool → List (Option Bool) → List ℕ
faulty_form memory held = held_code (Some memory) ∷ map held_code held

-- equal forms are of equal memories with equal places held
form_read : (memory other : Bool) (held twins : List (Option Bool))
    → faulty_form memory held ≡ faulty_form other twins → (memory ≡ other) × (held ≡ twins)
form_read memory other held twins same =
    let first : held_code (Some memory) ≡ held_code (Some other) = cc in
    let rest : map held_code held ≡ map held_code twins = cc in
    (same_Some memory other (held_read (Some memory) (Some other) first), all_read held twins rest)

pub faulty_tells : TellsWholly faulty_form faulty_form
faulty_tells memory other held twins many same = form_read memory other held twins same

-- forms are equal exactly if the memories and the places are
pub faulty_forms : (memory other : Bool) (held twins : List (Option Bool))
    → (faulty_form memory held ≡ faulty_form other twins) ↔ AreAlike faulty_rules.pairs memory held other twins
faulty_forms memory other held twins =
    let alike = equal_alike memory other held twins in (
      (λ same. alike.0 (form_read memory other held twins same)),
      (λ h. let same = alike.1 h in λ i. faulty_form (same.0 i) (same.1 i)),
    )

-- so bytes that are equal are of forms that are
pub faulty_decodes : DecodesForms faulty_rules faulty_form (λ bytes. bytes) faulty_form
faulty_decodes memory other held twins range places many e =
    let same = form_read other memory twins held e in (
      tt,
      subst (λ m. ArePlacesInRange faulty_rules m twins) (sym same.0)
          (subst (ArePlacesInRange faulty_rules memory) (sym same.1) places),
      (faulty_forms memory other held twins).0 (sym e),
    )
