-- What has been read of a schedule's text, and what is left of it.
use Rattle.std.proofs.Common.{◌≡◌, ◌∙◌, ◌-◌, ◌<◌, ◌≤◌, ◌++◌, ℕ, List, [], ◌∷◌, length, take, drop, slice_index_or}
use Rattle.std.proofs.Common.{arith, refl, sym, ap, subst, append_assoc, append-nil, length-append}
use Rattle.std.specs.List.{All}
use Rattle.std.proofs.Math.Seq.{get_or-append_seam}
use Rattle.std.proofs.lemmas.Bool.Decides.{nat_tests}
use Rattle.std.proofs.lemmas.List.{take_rest}
use Rattle.std.proofs.lemmas.List.Elements.{All-push}
use Rattle.std.specs.Prelude.{Bool, true, false, Option, MatchOption, ◌==◌}
use Rattle.std.specs.Bool.{then_some}
use Rattle.words.specs.Schedule.{IsSchedule, commaed, digit, schedule_text}

-- the text is that of the threads, at least one, with the rest behind it
abbrev pub HasRead : List ℕ → List ℕ → List ℕ → Type 0
HasRead text threads rest = (text ≡ schedule_text threads ++ rest) × All (λ t. t < 10) threads
    × (length threads ≤ 400) × (1 ≤ length threads)

abbrev pub at : List ℕ → ℕ → ℕ
at rest i = slice_index_or rest i 0

-- one more thread comes next
abbrev pub Follows : List ℕ → Type 0
Follows rest = (2 ≤ length rest) × (at rest 0 ≡ 44) × (48 ≤ at rest 1) × (at rest 1 < 58)

commaed-push : (threads : List ℕ) (t : ℕ) → commaed (threads ++ t ∷ []) ≡ commaed threads ++ 44 ∷ digit t ∷ []
commaed-push [] t = refl
commaed-push (x ∷ threads) t = ap (λ l. 44 ∷ digit x ∷ l) (commaed-push threads t)

front : (rest : List ℕ) → Follows rest → rest ≡ 44 ∷ digit (at rest 1 - 48) ∷ drop 2 rest
front (x ∷ y ∷ rest) f =
    let second : digit (y - 48) ≡ y = omega (arith, f.2, f.3) in
    let first : x ≡ 44 = f.1 in
    rw (first, second) refl
front _ f = absurd (omega (arith, f.0))

pub read_more : (text threads rest : List ℕ) → HasRead text threads rest → Follows rest → length threads < 400
    → HasRead text (threads ++ (at rest 1 - 48) ∷ []) (take (length rest - 2) (drop 2 rest))
read_more text [] rest h f bounded = absurd (omega (arith, h.3))
read_more text (x ∷ threads) rest h f bounded =
    let t = at rest 1 - 48 in
    let split : text ≡ schedule_text (x ∷ threads) ++ (44 ∷ digit t ∷ drop 2 rest) = rw (← front rest f) h.0 in (
      rw (take_rest rest 2, commaed-push threads t) (simp append_assoc split),
      All-push (λ t. t < 10) (x ∷ threads) t h.1 (omega (arith, f.2, f.3)),
      simp length-append (omega arith),
      simp length-append (omega arith),
    )

commaed_left : (done threads rest : List ℕ) → commaed threads ≡ commaed done ++ rest
    → (more : List ℕ) × ((threads ≡ done ++ more) × (rest ≡ commaed more))
commaed_left [] threads rest e = (threads, (refl, sym e))
commaed_left (d ∷ done) [] rest e = cc
commaed_left (d ∷ done) (t ∷ threads) rest e =
    let tails : commaed threads ≡ commaed done ++ rest = cc in
    let digits : digit t ≡ digit d = cc in
    let heads : t ≡ d = omega arith in
    let (more, (split, left)) = commaed_left done threads rest tails in
    (more, (cc, left))

-- a schedule with this text goes on with threads that the rest writes
schedule_left : (text done threads rest : List ℕ) → HasRead text done rest → text ≡ schedule_text threads
    → (more : List ℕ) × ((threads ≡ done ++ more) × (rest ≡ commaed more))
schedule_left text [] threads rest h e = absurd (omega (arith, h.3))
schedule_left text (d ∷ done) [] rest h e = cc (h.0, e)
schedule_left text (d ∷ done) (t ∷ threads) rest h e =
    commaed_left (d ∷ done) (t ∷ threads) rest (ap (λ l. 44 ∷ l) (sym e ∙ h.0))

follows : (done more rest : List ℕ) → rest ≡ commaed more → All (λ t. t < 10) (done ++ more) → 1 ≤ length rest
    → Follows rest
follows done [] rest e all some = absurd (omega (arith, ap length e))
follows done (t ∷ more) rest e all some =
    let small : t < 10 = simp get_or-append_seam at (all (length done) 0 (simp length-append (omega arith))) in
    subst Follows (sym e) (omega arith, refl, omega arith, omega arith)

-- where the rest goes on, and not with one more thread, the text is no schedule
pub strays : (text threads rest : List ℕ) → HasRead text threads rest → 1 ≤ length rest → (Follows rest → ⊥)
    → (others : List ℕ) → IsSchedule text others → ⊥
strays text threads rest h some not others is =
    let (more, (split, left)) = schedule_left text threads others rest h is.0 in
    not (follows threads more rest left (subst (All (λ t. t < 10)) split is.1) some)

pub too_long : (text threads rest : List ℕ) → HasRead text threads rest → 1 ≤ length rest → 400 ≤ length threads
    → (others : List ℕ) → IsSchedule text others → ⊥
too_long text threads rest h some many others is = none (schedule_left text threads others rest h is.0)
  where
    none : (more : List ℕ) × ((others ≡ threads ++ more) × (rest ≡ commaed more)) → ⊥
    none ([], (split, left)) = absurd (omega (arith, ap length left))
    none (t ∷ more, (split, left)) = absurd (omega (arith, is.2, simp length-append at (ap length split)))

module _ {V : Type 0} (items : V → List ℕ) (v : V) (text : List ℕ) where
  pub judged : (rest : List ℕ) → HasRead text (items v) rest → (Follows rest → ⊥) → (b : Bool) → b ≡ (length rest == 0)
      → (r : Option V) → r ≡ then_some b v
      → MatchOption r ((threads : List ℕ) → IsSchedule text threads → ⊥) (λ v. IsSchedule text (items v))
  judged [] h not b e r is = rw (is, e) (h.0 ∙ append-nil (schedule_text (items v)), h.1, h.2)
  judged (x ∷ rest) h not true e r is = absurd (grind (arith, nat_tests))
  judged (x ∷ rest) h not false e r is = rw is (strays text (items v) (x ∷ rest) h (omega arith) not)
