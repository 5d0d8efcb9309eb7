-- Equal lists of bytes are hashed alike.
use Rattle.std.specs.Prelude.{◌≡◌, ℕ, List, true, nat_eq}
use Rattle.std.specs.Cmp.Lexicographic.{pointwise}
use Rattle.std.proofs.Common.{ap}
use Rattle.sched_program.specs.Laws.Exact.{nat_exact, list_exact}
use Rattle.tree_machine.specs.ByteLists.{bytes_input}

-- equal lists are fed alike
pub bytes_fed : (a b : List ℕ) → pointwise nat_eq a b ≡ true → bytes_input a ≡ bytes_input b
bytes_fed a b same = ap bytes_input (list_exact nat_exact a b same)
