-- What the numbers of a packed row mean.
use Rattle.std.specs.Prelude.{ℕ, nat_eq, if◌then◌else◌, Option, Some, None}
use Rattle.book.specs.Entries.{Origin}

-- the step that reached an entry: none where the parent is the greatest number of four bytes
abbrev pub origin_of : ℕ → ℕ → Option Origin
origin_of parent thread = if nat_eq parent 4294967295 then None else Some (record { parent = parent; thread = thread })
