-- What was given to a call is the book's.
use Rattle.std.proofs.Common.{◌≡◌}
use Rattle.sched_program.specs.Program.{Program}
use Rattle.options.specs.declared.options.Merge.{Merge}

-- a fact on the machine, the program and the merge that were given is one on the book's
pub given_merge : {X : Type 0} (P : X → Program → Merge → Type 0) (x y : X) (p q : Program) (k l : Merge) → x ≡ y
    → p ≡ q → k ≡ l → P x p k → P y q l
given_merge P x y p q k l machine program merge h = rw (← machine, ← program, ← merge) h
