-- What is called with each of several items.
use Rattle.std.specs.Prelude.{◌≡◌}
use denote.Ref.{MutBor}
use denote.Param.Members.{Shared}

-- f may be called with a `&mut` to the item
abbrev pub TakesItem : {F T : Type 0} → Shared F (MutBor T × Unit {0}) (Unit {0} × (MutBor T × Unit {0})) → F → T
    → Type 0
TakesItem {F} {T} g f item = (p : MutBor T) → p.now ≡ item → g.pre f (p, tt)
