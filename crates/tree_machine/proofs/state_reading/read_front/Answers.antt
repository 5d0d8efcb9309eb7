-- The bytes begin with those that are known.
use Rattle.std.proofs.Common.{◌≡◌, ℕ, true, List, ◌++◌, length, take, drop, nat_eq, sym, ◌∙◌, take-append-drop}
use Rattle.std.specs.Cmp.Lexicographic.{pointwise}
use Rattle.sched_program.specs.Laws.Exact.{nat_exact, list_exact}
use Rattle.tree_machine.proofs.state_reading.read_front.Goals as goal

known_first : (front bytes known rest : List ℕ) → known ≡ front
    → pointwise nat_eq (take (length known) bytes) known ≡ true → rest ≡ drop (length known) bytes
    → bytes ≡ front ++ rest
known_first front bytes known rest k same is =
    sym (take-append-drop (length known) bytes)
    ∙ (λ i. (list_exact nat_exact (take (length known) bytes) known same ∙ k) i ++ sym is i)

pub returns : goal.returns
returns g c =
    let prefix = c.in-Some-strip_prefix.ensures.cases in
    known_first _ c.args.bytes.now c.in-Some.known.now c.in-Some-strip_prefix.rest.now (rw c.in-Some.is at c.requires)
    prefix.0 prefix.1
