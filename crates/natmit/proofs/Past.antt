-- A node that is not there is not written.
use Rattle.std.proofs.Common.{◌≡◌, ℕ, ◌≤◌, length, ap}
use Rattle.std.proofs.lemmas.List.{set_past as list_past}
use Rattle.natmit.specs.Types.{Side, Word, NatMitMem}
use Rattle.natmit.specs.Memory.{node_at, with_word, set_word}

pub set_past : (memory : NatMitMem) (x : ℕ) (d : Side) (w : Word) → length memory.nodes ≤ x
    → set_word memory x d w ≡ memory
set_past memory x d w past =
    ap (λ nodes. record { nodes = nodes }) (list_past memory.nodes x (with_word d w (node_at memory x)) past)
