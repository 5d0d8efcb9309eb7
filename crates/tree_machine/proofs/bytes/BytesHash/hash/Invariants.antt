use Rattle.std.proofs.Common.{◌≡◌, fold, take}
use Rattle.tree_machine.proofs.bytes.BytesHash.hash.Given as goal

-- the eights so far are written
abbrev pub invariant-loop-eight : goal.invariant-loop-eight
invariant-loop-eight g l = l.state ≡ fold g.H.Hasher.write l.fn.state (take l.eight-index l.eights)
