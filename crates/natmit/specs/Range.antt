-- Each number of a node names one of the memory.
use Rattle.std.specs.Prelude.{ℕ, ◌<◌, length, All}
use Rattle.natmit.specs.Types.{Node, Leaf, Internal, NatMitMem, Mode, Plain, Owner, Path, NatMitLoc, Begin, Down, Put}
use Rattle.natmit.specs.Types.{Flag, Look, CleanRead, Tag, Sibling, Swing}

-- the numbers in a node are below this one
abbrev pub IsNodeIn : ℕ → Node → Type 0
IsNodeIn n (Leaf k) = Unit {0}
IsNodeIn n (Internal k l r) = (l.node < n) × (r.node < n)

abbrev pub IsModeIn : ℕ → Mode → Type 0
IsModeIn n Plain = Unit {0}
IsModeIn n (Owner o) = o < n

abbrev pub IsPathIn : ℕ → Path → Type 0
IsPathIn n p = (p.ancestor < n) × (p.successor < n) × (p.parent < n)

abbrev pub IsPlaceIn : ℕ → NatMitLoc → Type 0
IsPlaceIn n (Begin mode) = IsModeIn n mode
IsPlaceIn n (Down p l t mode) = IsPathIn n p × (l < n) × IsModeIn n mode
IsPlaceIn n (Put p l) = IsPathIn n p × (l < n)
IsPlaceIn n (Flag p l) = IsPathIn n p × (l < n)
IsPlaceIn n (Look p l) = IsPathIn n p × (l < n)
IsPlaceIn n (CleanRead p mode) = IsPathIn n p × IsModeIn n mode
IsPlaceIn n (Tag p d mode) = IsPathIn n p × IsModeIn n mode
IsPlaceIn n (Sibling p d mode) = IsPathIn n p × IsModeIn n mode
IsPlaceIn n (Swing a s f x mode) = (a < n) × (s < n) × (x < n) × IsModeIn n mode

-- in a memory, which has the root and node 1, where each search begins
pub record IsInRange (memory : NatMitMem) : Type 0 where
  pub first_nodes : 1 < length memory.nodes
  pub nodes : All (IsNodeIn (length memory.nodes)) memory.nodes

abbrev pub IsPlaceInRange : NatMitMem → NatMitLoc → Type 0
IsPlaceInRange memory place = IsPlaceIn (length memory.nodes) place
