-- A node that is not there is not written.
use Rattle.std.proofs.Common.{◌≡◌, ℕ, ◌≤◌, length, ap}
use Rattle.std.proofs.lemmas.List.{set_past}
use Rattle.ellen.specs.Types.{Node, EllenMem}
use Rattle.ellen.specs.Memory.{set_node}

pub node_past : (memory : EllenMem) (x : ℕ) (node : Node) → length memory.nodes ≤ x → set_node memory x node ≡ memory
node_past memory x node past =
    ap (λ nodes. record { nodes = nodes; records = memory.records }) (set_past memory.nodes x node past)
