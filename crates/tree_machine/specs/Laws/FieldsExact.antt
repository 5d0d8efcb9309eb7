-- Values that are made alike are one and the same where each of their fields compares as equal.
use Rattle.std.specs.Prelude.{◌≡◌, Bool, true, ◌&&◌}
use Rattle.sched_program.specs.Exact.{IsExact}
use Rattle.std.proofs.Common.{arith}

pub two_fields : {A B X : Type 0} {p : A → A → Bool} {q : B → B → Bool} → IsExact p → IsExact q → (make : A → B → X)
    (a a' : A) (b b' : B) → (p a a' && q b b') ≡ true → make a b ≡ make a' b'
two_fields first second make a a' b b' h = grind arith

pub three_fields : {A B C X : Type 0} {p : A → A → Bool} {q : B → B → Bool} {r : C → C → Bool} → IsExact p → IsExact q
    → IsExact r → (make : A → B → C → X) (a a' : A) (b b' : B) (c c' : C)
    → (p a a' && (q b b' && r c c')) ≡ true → make a b c ≡ make a' b' c'
three_fields first second third make a a' b b' c c' h = grind arith

pub four_fields : {A B C D X : Type 0} {p : A → A → Bool} {q : B → B → Bool} {r : C → C → Bool} {s : D → D → Bool}
    → IsExact p → IsExact q → IsExact r → IsExact s → (make : A → B → C → D → X) (a a' : A) (b b' : B) (c c' : C)
    (d d' : D) → (p a a' && (q b b' && (r c c' && s d d'))) ≡ true → make a b c d ≡ make a' b' c' d'
four_fields first second third fourth make a a' b b' c c' d d' h = grind arith

pub five_fields : {A B C D E X : Type 0} {p : A → A → Bool} {q : B → B → Bool} {r : C → C → Bool} {s : D → D → Bool}
    {t : E → E → Bool} → IsExact p → IsExact q → IsExact r → IsExact s → IsExact t → (make : A → B → C → D → E → X)
    (a a' : A) (b b' : B) (c c' : C) (d d' : D) (e e' : E)
    → (p a a' && (q b b' && (r c c' && (s d d' && t e e')))) ≡ true → make a b c d e ≡ make a' b' c' d' e'
five_fields first second third fourth fifth make a a' b b' c c' d d' e e' h = grind arith
