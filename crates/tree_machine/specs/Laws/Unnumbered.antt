-- Pairs that are equal are lawful, and what they pair is equal.
use Rattle.std.specs.Prelude.{◌≡◌, List, [], ◌∷◌, Option, refl, ◌↔◌}
use Rattle.std.specs.List.{AllZip}
use Rattle.std.proofs.Common.{arith, subst, sym}
use Rattle.tree_machine.specs.Pairing.{AreHeldPaired, AreAlike, ArePairsLawful}
use Rattle.tree_machine.specs.Unnumbered.{equal_pairs}
use Rattle.tree_machine.specs.declared.machine.Outcome.{Outcome}

module _ {Place : Type 0} where
  held_paired : (held : List (Option Place)) → AllZip (AreHeldPaired ◌≡◌) held held
  held_paired [] = tt
  held_paired (place ∷ held) = grind (arith, held_paired held)

  held_same : (held twins : List (Option Place)) → AllZip (AreHeldPaired ◌≡◌) held twins → held ≡ twins
  held_same [] [] h = refl
  held_same (place ∷ held) (twin ∷ twins) h = grind (arith, held_same held twins h.1)
  held_same _ _ h = absurd h

module _ {Memory Place : Type 0} where
  pub equal_pairs_lawful : {Operation : Type 0} (first : Operation → Place)
      (act : Operation → Place → Memory → Memory × Outcome Place) (IsOrdered : Memory → Type 0)
      → ArePairsLawful equal_pairs first act IsOrdered
  equal_pairs_lawful first act IsOrdered = record {
    first_paired = λ _ _ _ _ _. refl;
    places_extend = λ _ _ _ _ _ h. h;
    ordered_paired = λ _ memory other same. (subst IsOrdered same, subst IsOrdered (sym same));
    act_paired = λ op p place twin memory other same at. record {
      then = p;
      extends = record { nodes = λ _ _ h. h; records = λ _ _ h. h };
      memories_paired = λ i. (act op (at i) (same i)).0;
      outcomes_paired = grind arith;
    };
  }

  -- alike is what is equal
  pub equal_alike : (memory other : Memory) (held twins : List (Option Place))
      → ((memory ≡ other) × (held ≡ twins)) ↔ AreAlike equal_pairs memory held other twins
  equal_alike memory other held twins = (
    (λ same. (record { nodes = []; records = [] }, same.0, rw same.1 (held_paired twins))),
    (λ alike. (alike.1, held_same held twins alike.2)),
  )
