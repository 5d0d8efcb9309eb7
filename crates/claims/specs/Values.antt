-- What contracts see of a claim counter and of a seat.
use Rattle.atomic_table.specs.Seated.{TableId}
use Rattle.claims.specs.declared.view.Draws.{Draws}
use Rattle.claims.specs.declared.view.Size.{Size}

-- which counter a seat is of, and what it drew
pub record Seated : Type 0 where
  pub counter : TableId
  pub drew : Draws

-- which counter it is, and its size
pub record Counter : Type 0 where
  pub counter : TableId
  pub size : Size
